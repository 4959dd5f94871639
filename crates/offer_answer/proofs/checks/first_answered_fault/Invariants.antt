use Rattle.std.proofs.Common.{◌≡◌, drop}
use Rattle.offer_answer.specs.Checks.{first_answered_fault}
use Rattle.offer_answer.proofs.checks.first_answered_fault.Given as goal

-- the first fault of what is left is the first of all
abbrev pub invariant-loop-i : goal.invariant-loop-i
invariant-loop-i l = first_answered_fault l.range (drop l.i l.offered) l.answer (drop l.i l.answered-items) ≡ first_answered_fault l.range l.offered l.answer l.answer.media
