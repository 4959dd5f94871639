use Rattle.std.proofs.Common.{◌≡◌, drop}
use Rattle.offer_answer.specs.Checks.{first_medium_fault}
use Rattle.offer_answer.proofs.checks.first_medium_fault.Given as goal

-- the first fault of what is left is the first of all
abbrev pub invariant-loop-medium : goal.invariant-loop-medium
invariant-loop-medium l = first_medium_fault l.range l.description (drop l.medium-index l.medium-items) ≡ first_medium_fault l.range l.description l.description.media
