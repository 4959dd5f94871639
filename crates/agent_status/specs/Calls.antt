-- The live calls.
use Rattle.std.specs.Prelude.{ℕ, List, [], find, ◌==◌, Option, Some, None, unwrap_or}
use Rattle.call_core.specs.declared.stage.Phase.{Phase}
use Rattle.call_core.specs.declared.stage.Phase.TheVariants as phases
use Rattle.call_core.specs.Calls.{phase_in}
use Rattle.call_media.specs.declared.session.Session.{Session}
use Rattle.call_core.specs.declared.call.Call.{Call}
use Rattle.dialogs.specs.declared.state.Dialog.{Dialog}
use Rattle.status.specs.declared.call.CallPhase.{CallPhase}
use Rattle.status.specs.declared.call.CallPhase.TheVariants.{Calling, Cancelling, Answered, Talking, Changing, Ending}
use Rattle.status.specs.declared.call.CallStatus.{CallStatus}
use Rattle.status.specs.declared.call.CallTraffic.{CallTraffic}
use Rattle.status.specs.declared.call.MediumStatus.{MediumStatus}
use Rattle.agent_status.specs.Sessions.{media_of}

-- how far a call in a phase is; one that is gone is ending
abbrev pub call_phase : Option Phase → CallPhase
call_phase None = Ending
call_phase (Some phases.Asked) = Calling
call_phase (Some phases.Cancelling) = Cancelling
call_phase (Some phases.Answered) = Answered
call_phase (Some phases.Settled) = Talking
call_phase (Some phases.Reasked) = Changing
call_phase (Some phases.Reanswered) = Changing
call_phase (Some phases.Updating) = Changing
call_phase (Some phases.Ending) = Ending

abbrev pub media_in : Option Session → List MediumStatus
media_in None = []
media_in (Some session) = media_of session

-- what was counted of a call
abbrev pub traffic_of : List CallTraffic → ℕ → Option CallTraffic
traffic_of traffic number = find (λ t. t.number == number) traffic

abbrev pub user_text : Option (List ℕ) → List ℕ
user_text user = unwrap_or user []

-- the caller, and the callee, as the dialog with the caller has them: the server is the callee there (RFC 3261
-- section 12.1.1)
abbrev pub users_of : Option Dialog → List ℕ × List ℕ
users_of None = ([], [])
users_of (Some dialog) = (user_text dialog.theirs.uri.user, user_text dialog.ours.uri.user)

abbrev pub call_status : List CallTraffic → Call → CallStatus
call_status traffic c = record {
  number = c.number;
  caller = user_text c.caller.theirs.uri.user;
  callee = user_text c.caller.ours.uri.user;
  phase = call_phase (phase_in c.standing);
  media = media_in c.media.session;
  traffic = traffic_of traffic c.number;
}
