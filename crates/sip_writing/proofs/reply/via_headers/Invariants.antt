use Rattle.std.proofs.Common.{◌≡◌, ◌++◌, drop}
use Rattle.sip_writing.specs.Reply.{via_headers}
use Rattle.sip_writing.proofs.reply.via_headers.Given as goal

-- the headers so far and those of what is left are all
abbrev pub invariant-loop-via : goal.invariant-loop-via
invariant-loop-via l = l.headers.items ++ via_headers (drop l.via-index l.vias) ≡ via_headers l.vias
