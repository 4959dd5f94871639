use Rattle.std.proofs.Common.{◌≡◌, map}
use Rattle.scripts.proofs.entry.users.Given as goal

abbrev pub invariant-loop-name : goal.invariant-loop-name
invariant-loop-name l = l.users.items ≡ map (λ x. x.now) l.yielded
