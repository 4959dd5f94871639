use Rattle.std.proofs.Common.{length}
use Rattle.scripts.proofs.PlaceLaws.{Splits}
use Rattle.scripts.proofs.read.malformed_at.Given as goal

-- events come before what is left
abbrev pub invariant-loop-rest : goal.invariant-loop-rest
invariant-loop-rest l = Splits l.text l.rest

abbrev pub decreases-loop-rest : goal.decreases-loop-rest
decreases-loop-rest l = length l.rest
