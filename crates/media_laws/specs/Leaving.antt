-- The calls that stand after the trace of some events, and those that an end has left.
use Rattle.std.specs.Prelude.{◌≡◌, Bool, true, false, List, Option, Some, ◌⊎◌}
use Rattle.call_core.specs.Calls.{has_session, holds_in}
use Rattle.call_core.specs.declared.stage.Stage.{Stage}
use Rattle.call_core.specs.declared.stage.Stage.TheVariants.{Answered, Asked, Cancelling, Ending, Reanswered, Reasked, Settled, Updating}
use Rattle.call_core.specs.declared.stage.Standing.{Standing}
use Rattle.call_media.specs.Ends.{other}
use Rattle.call_media.specs.declared.end.End.{End}
use Rattle.call_media.specs.declared.end.End.TheVariants.{Callee, Caller}
use Rattle.call_trace.specs.declared.datagram.Datagram.{Datagram}
use Rattle.call_trace.specs.declared.datagram.Dialog.{Dialog}
use Rattle.call_trace.specs.Calls.{Begun, CallFrom, Ended}
use Rattle.call_trace.specs.Listed.{AllOf, AnyOf}
use Rattle.call_trace.specs.Messages.{offering}
use Rattle.calls.specs.declared.standing_call.StandingCall.{StandingCall}
use Rattle.media_laws.specs.Keeping.{dialog_with_callee, dialog_with_caller}

-- one end has left the call, and the other is being notified
abbrev pub is_ending : Stage → Bool
is_ending (Asked rung) = false
is_ending (Cancelling sent) = false
is_ending (Answered interval) = false
is_ending Settled = false
is_ending (Reasked rung cancelled) = false
is_ending (Reanswered interval) = false
is_ending Updating = false
is_ending (Ending interval) = true

abbrev pub dialog_with : End → StandingCall → Option Dialog
dialog_with Caller c = Some (dialog_with_caller c)
dialog_with Callee c = dialog_with_callee c

-- in the trace the dialog with the end that left, other than the one that is notified, has ended
pub record IsLeft (t : List Datagram) (c : StandingCall) (n : Standing) : Type 0 where
  pub dialog : Dialog
  pub with_it : dialog_with (other n.offerer) c ≡ Some dialog
  pub ended : Ended t dialog

-- the call has these dialogs with its caller and its callee, and one end has left it
pub record IsLeaving (dx dy : Dialog) (c : StandingCall) : Type 0 where
  pub left : holds_in is_ending c.call.standing ≡ true
  pub caller : dialog_with_caller c ≡ dx
  pub callee : dialog_with_callee c ≡ Some dy

-- the call, which was answered, has this dialog with one of its ends
pub record HasDialog (d : Dialog) (c : StandingCall) : Type 0 where
  pub answered : (holds_in has_session c.call.standing ≡ true) ⊎ (holds_in is_ending c.call.standing ≡ true)
  pub leg : (dialog_with_caller c ≡ d) ⊎ (dialog_with_callee c ≡ Some d)

-- The dialog of a listed call with the end that left it has ended. Where a dialog of a call of the trace has ended, the
-- call is listed as one that an end has left, or both its dialogs have ended; and a dialog that has begun is one of a
-- listed call, or has ended.
pub record ListsLeft (calls : List StandingCall) (t : List Datagram) : Type 0 where
  pub left : AllOf (λ c. (n : Standing) → c.call.standing ≡ Some n → is_ending n.stage ≡ true → IsLeft t c n) calls
  pub both : (caller callee : Dialog) → CallFrom offering t caller callee → Ended t caller ⊎ Ended t callee → AnyOf (IsLeaving caller callee) calls ⊎ (Ended t caller × Ended t callee)
  pub begun : (d : Dialog) → Begun t d → AnyOf (HasDialog d) calls ⊎ Ended t d
