-- The server's own tags of a call, as prints.
use Rattle.std.specs.Prelude.{ℕ, ◌||◌, Bool, nat_eq, Option, Some, None}
use Rattle.index.specs.declared.print.PrintKey.{PrintKey}
use Rattle.index.specs.PrintKeys.{print_of}
use Rattle.call_core.specs.Calls.{dialog_of}
use Rattle.call_media.specs.declared.end.End.{End}
use Rattle.call_media.specs.declared.end.End.TheVariants.{Caller, Callee}
use Rattle.dialogs.specs.declared.state.Dialog.{Dialog}
use Rattle.calls.specs.declared.standing_call.StandingCall.{StandingCall}
use Rattle.calls.specs.declared.tags.TagPrints.{TagPrints}

abbrev pub tag_print : PrintKey → Option Dialog → ℕ
tag_print key None = 0
tag_print key (Some d) = print_of key d.id.ours

abbrev pub prints_of : PrintKey → StandingCall → TagPrints
prints_of key c = record { leg = print_of key c.callee_tag; caller = tag_print key (dialog_of Caller c.call); callee = tag_print key (dialog_of Callee c.call) }

-- the leg to the callee, or the dialog with the caller, may have a tag of this print
abbrev pub has_print : ℕ → TagPrints → Bool
has_print print tags = nat_eq tags.leg print || nat_eq tags.caller print

-- the dialog with this end may have one
abbrev pub has_print_at : End → ℕ → TagPrints → Bool
has_print_at Caller print tags = nat_eq tags.caller print
has_print_at Callee print tags = nat_eq tags.callee print
