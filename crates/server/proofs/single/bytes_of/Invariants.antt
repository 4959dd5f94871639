use Rattle.std.proofs.Common.{◌≡◌, ◌++◌, drop}
use Rattle.server.specs.Once.{bytes_of}
use Rattle.server.proofs.single.bytes_of.Given as goal

-- the bytes so far and those of what is left are all
abbrev pub invariant-loop-datagram : goal.invariant-loop-datagram
invariant-loop-datagram l = l.bytes.items ++ bytes_of (drop l.datagram-index l.sent) ≡ bytes_of l.sent
