use Rattle.std.proofs.Common.{◌≡◌, length}
use Rattle.sockets.proofs.ports.polls_of.Given as goal

-- one for each round so far
abbrev pub invariant-loop : goal.invariant-loop
invariant-loop g l = length l.polls.items ≡ l.counter
