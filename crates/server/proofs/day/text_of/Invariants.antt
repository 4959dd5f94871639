use Rattle.std.proofs.Common.{◌≡◌, ◌++◌, drop}
use Rattle.server.specs.Replay.{text_of}
use Rattle.server.proofs.day.text_of.Given as goal

-- the text so far and that of what is left are all
abbrev pub invariant-loop-datagram : goal.invariant-loop-datagram
invariant-loop-datagram l = l.text.items ++ text_of (drop l.datagram-index l.sent) ≡ text_of l.sent
