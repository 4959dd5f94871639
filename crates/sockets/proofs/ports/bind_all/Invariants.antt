use Rattle.std.proofs.Common.{◌≡◌, length}
use Rattle.sockets.proofs.ports.bind_all.Given as goal

-- a socket for each place so far
abbrev pub invariant-loop-place : goal.invariant-loop-place
invariant-loop-place g l = length l.sockets.items ≡ l.place
