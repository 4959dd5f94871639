use Rattle.std.proofs.Common.{◌≡◌, ◌++◌, map}
use Rattle.std.specs.Option.{option_copied}
use Rattle.text.specs.Pieces.{pieces}
use Rattle.text.specs.declared.split.Within.TheVariants.{Nothing}
use Rattle.text.proofs.PieceSteps.{pieces_left, left_length}
use Rattle.sip_message.specs.Contact.{contact_of}
use Rattle.sip_message.proofs.contact.put_lent.Given as goal

-- the values so far and those of what is left are all
abbrev pub invariant-loop-left : goal.invariant-loop-left
invariant-loop-left l = l.contacts.items ++ map contact_of (pieces_left 44 (option_copied l.left)) ≡ l.initial.contacts.items ++ map contact_of (pieces 44 Nothing l.text)

abbrev pub decreases-loop-left : goal.decreases-loop-left
decreases-loop-left l = left_length (option_copied l.left)
