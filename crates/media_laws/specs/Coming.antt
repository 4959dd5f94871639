-- The dialog that comes with an event to a call: which of the call's it is put in place of (RFC 3261 sections 12.1.2,
-- 12.2.1.2 and 12.2.2).
use Rattle.std.specs.Prelude.{◌≡◌, nat_lt, true, Option, Some, None}
use Rattle.std.specs.List.{All}
use Rattle.sip_uri.specs.declared.uri.Uri.{Uri}
use Rattle.sip_message.specs.declared.message.Parts.{Parts}
use Rattle.sip_message.specs.declared.message.Response.{Response}
use Rattle.sdp.specs.declared.description.Description.{Description}
use Rattle.dialogs.specs.declared.method.Method.TheVariants.{Bye}
use Rattle.dialogs.specs.declared.state.Dialog.{Dialog}
use Rattle.dialogs.specs.Counting.{max_for, last_number}
use Rattle.dialogs.specs.Making.{callers_dialog}
use Rattle.call_media.specs.declared.end.End.TheVariants.{Callee}
use Rattle.call_core.specs.Calls.{dialog_of}
use Rattle.calls.specs.declared.change.LegDialog.{LegDialog}
use Rattle.calls.specs.declared.standing_call.StandingCall.{StandingCall}
use Rattle.call_messages.specs.declared.scene.Scene.{Scene}
use Rattle.call_steps.specs.Scenes.{scene}
use Rattle.call_steps.specs.Values.{ComingValue, lent_scene}
use Rattle.plans.specs.CallRows.{occasion}
use Rattle.plans.specs.Office.{Office}
use Rattle.plans.specs.declared.setting.Setting.{Setting}
use Rattle.message_laws.specs.Sound.{IsSoundLeg}

-- the scene of a current call, as its actions see it
abbrev pub scene_at : Office → Setting → ComingValue → StandingCall → Option Description → Scene
scene_at s e w c description = lent_scene (scene s.table (occasion s e) w c description)

-- ---- a dialog that goes on

-- with the same identifiers, after the same number of ours
pub record IsSameDialog (old d : Dialog) : Type 0 where
  pub id : d.id ≡ old.id
  pub sound : IsSoundLeg d
  pub number : last_number d ≡ last_number old

abbrev pub IsOwnDialog : Option Dialog → Dialog → Type 0
IsOwnDialog None d = ⊥
IsOwnDialog (Some old) d = IsSameDialog old d

-- what comes is the call's own dialog with that end
abbrev pub FitsComing : StandingCall → Option LegDialog → Type 0
FitsComing c None = Unit {0}
FitsComing c (Some leg) = IsOwnDialog (dialog_of leg.end c.call) leg.dialog

-- ---- a dialog that begins

-- the one that the first 2xx makes with the callee, to a request with these parts
abbrev pub first_dialog : Parts → Response → Uri → LegDialog
first_dialog asked response target = record { end = Callee; dialog = callers_dialog asked response target }

-- ---- numbers

abbrev pub HasByeLeft : Option Dialog → Type 0
HasByeLeft None = Unit {0}
HasByeLeft (Some d) = nat_lt (last_number d) (max_for Bye) ≡ true

-- a BYE can be sent in each dialog of the call (section 8.1.1.5)
pub record HasNumbersLeft (c : StandingCall) : Type 0 where
  pub caller : nat_lt (last_number c.call.caller) (max_for Bye) ≡ true
  pub callee : HasByeLeft c.call.callee

-- the same holds for all current calls
abbrev pub KnowsNumbersLeft : Office → Type 0
KnowsNumbersLeft s = All HasNumbersLeft s.calls.calls
