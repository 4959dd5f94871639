use Rattle.std.proofs.Common.{◌≡◌}
use Rattle.std.specs.Option.{option_copied}
use Rattle.text.specs.Pieces.{pieces}
use Rattle.text.specs.declared.split.Within.TheVariants.{Nothing}
use Rattle.text.proofs.PieceSteps.{pieces_left, left_length}
use Rattle.sip_message.specs.Via.{each_via, put_before}
use Rattle.sip_message.proofs.via.put_lent.Given as goal

-- the values so far and those of what is left are all
abbrev pub invariant-loop-left : goal.invariant-loop-left
invariant-loop-left l = put_before l.vias.items (each_via (pieces_left 44 (option_copied l.left))) ≡ put_before l.initial.vias.items (each_via (pieces 44 Nothing l.text))

abbrev pub decreases-loop-left : goal.decreases-loop-left
decreases-loop-left l = left_length (option_copied l.left)
