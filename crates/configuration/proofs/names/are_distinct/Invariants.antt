use Rattle.std.proofs.Common.{◌≡◌, length}
use Rattle.registrar.specs.Registering.{are_distinct}
use Rattle.configuration.proofs.names.are_distinct.Given as goal

-- no user occurs twice if none does in what is left
abbrev pub invariant-loop-rest : goal.invariant-loop-rest
invariant-loop-rest l = are_distinct l.rest ≡ are_distinct l.users

abbrev pub decreases-loop-rest : goal.decreases-loop-rest
decreases-loop-rest l = length l.rest
