use Rattle.std.proofs.Common.{◌≡◌, take, drop}
use Rattle.text.specs.Pieces.{pieces}
use Rattle.text.specs.declared.split.Within.TheVariants.{Nothing}
use Rattle.text.proofs.PieceLaws.{with_front}
use Rattle.text.proofs.split.cut_piece.Given as goal

-- the pieces of what is left, the first of which has begun
abbrev pub invariant-loop-at : goal.invariant-loop-at
invariant-loop-at l = with_front (take l.at l.text) (pieces l.separator l.within (drop l.at l.text)) ≡ pieces l.separator Nothing l.text
