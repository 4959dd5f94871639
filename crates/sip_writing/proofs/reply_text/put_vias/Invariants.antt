use Rattle.std.proofs.Common.{◌≡◌, ◌++◌, drop}
use Rattle.sip_writing.specs.Reply.{via_headers}
use Rattle.sip_writing.specs.Writing.{headers_text}
use Rattle.sip_writing.proofs.reply_text.put_vias.Given as goal

-- what is written, and what is left to write, is the whole
abbrev pub invariant-loop-via : goal.invariant-loop-via
invariant-loop-via l = l.out.items ++ headers_text (via_headers (drop l.via-index l.vias)) ≡ l.fn.out.items ++ headers_text (via_headers l.vias)
