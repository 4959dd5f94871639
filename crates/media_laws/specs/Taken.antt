-- Which numbers the dialogs of calls have taken from the ends (RFC 3261 section 12.2.2).
use Rattle.std.specs.Prelude.{◌≡◌, ℕ, true, List, Option, Some, None}
use Rattle.std.specs.List.{All}
use Rattle.dialogs.specs.Counting.{IsOld}
use Rattle.dialogs.specs.declared.state.Dialog.{Dialog}
use Rattle.call_media.specs.declared.end.End.{End}
use Rattle.call_core.specs.Calls.{dialog_of, holds_in}
use Rattle.call_rules.specs.Responses.{awaits_final}
use Rattle.call_steps.specs.Scenes.{tag_to}
use Rattle.calls.specs.Carrying.{offerer_of}
use Rattle.calls.specs.declared.standing_call.StandingCall.{StandingCall}
use Rattle.plans.specs.Office.{Office}

-- a request with this number was taken in the dialog, or one with a greater number; where there is no dialog none was
abbrev pub IsTakenIn : ℕ → Option Dialog → Type 0
IsTakenIn number None = ⊥
IsTakenIn number (Some d) = IsOld d.remote_number number

-- an end whose tag of the server's is this one has sent a request with this number, or with a greater one
abbrev pub HasTakenBy : List ℕ → ℕ → StandingCall → Type 0
HasTakenBy tag number c = (end : End) → tag_to end c ≡ tag → IsTakenIn number (dialog_of end c.call)

-- while the offer that the call took last has no final response, its number counts in the dialog with its offerer
abbrev pub HasTakenOffer : StandingCall → Type 0
HasTakenOffer c = holds_in awaits_final c.call.standing ≡ true → IsTakenIn c.asked.number (dialog_of (offerer_of c.call.standing) c.call)

-- of each current call
abbrev pub KnowsTaken : Office → Type 0
KnowsTaken s = All HasTakenOffer s.calls.calls
