use Rattle.std.proofs.Common.{◌≡◌, length}
use Rattle.header_fields.specs.Folded.{behind_piece}
use Rattle.header_fields.proofs.folds.behind.Given as goal

abbrev pub invariant-loop-wanted : goal.invariant-loop-wanted
invariant-loop-wanted l = behind_piece l.wanted l.left ≡ behind_piece l.piece l.text

abbrev pub decreases-loop-wanted : goal.decreases-loop-wanted
decreases-loop-wanted l = length l.wanted
