-- The calls that stand after the trace of some events, and the calls that are live in it.
use Rattle.std.specs.Prelude.{◌≡◌, ◌≢◌, true, List, [], ◌∷◌, Some}
use Rattle.call_core.specs.Calls.{has_session, holds_in}
use Rattle.call_trace.specs.declared.datagram.Datagram.{Datagram}
use Rattle.call_trace.specs.declared.datagram.Dialog.{Dialog}
use Rattle.call_trace.specs.Calls.{CallFrom, Live}
use Rattle.call_trace.specs.Listed.{AllOf, AnyOf}
use Rattle.call_trace.specs.Lives.{IsOneCall}
use Rattle.call_trace.specs.Messages.{offering}
use Rattle.calls.specs.declared.standing_call.StandingCall.{StandingCall}
use Rattle.media_laws.specs.Leaving.{ListsLeft}
use Rattle.media_laws.specs.Keeping.{dialog_with_callee, dialog_with_caller}

-- the call has these dialogs with its caller and its callee; it was answered, and no end has left it (RFC 3261 sections
-- 12.1 and 15)
pub record IsTalking (dx dy : Dialog) (c : StandingCall) : Type 0 where
  pub answered : holds_in has_session c.call.standing ≡ true
  pub caller : dialog_with_caller c ≡ dx
  pub callee : dialog_with_callee c ≡ Some dy

-- it is such a call, and live in the trace
pub record IsLiveCall (t : List Datagram) (c : StandingCall) : Type 0 where
  pub callee : Dialog
  pub talks : IsTalking (dialog_with_caller c) callee c
  pub call : CallFrom offering t (dialog_with_caller c) callee
  pub caller_lives : Live t (dialog_with_caller c)
  pub callee_lives : Live t callee

-- ---- each once

-- of these dialogs of a call, the caller's and the callee's, neither is one of the other call's
pub record AreApart (caller callee other_caller other_callee : Dialog) : Type 0 where
  pub callers : caller ≢ other_caller
  pub callees : callee ≢ other_callee
  pub to_callee : caller ≢ other_callee
  pub to_caller : callee ≢ other_caller

-- so it is where both were answered, and no end has left either
abbrev pub TalkApart : StandingCall → StandingCall → Type 0
TalkApart c d = (a b x y : Dialog) → IsTalking a b c → IsTalking x y d → AreApart a b x y

-- and of any two places of a list
abbrev pub EachTalksApart : List StandingCall → Type 0
EachTalksApart [] = Unit {0}
EachTalksApart (c ∷ cs) = AllOf (TalkApart c) cs × EachTalksApart cs

-- ---- the current calls

-- Each call that was answered, and that no end has left, is a live one of the trace, each live call of the trace is one
-- of these, and none is listed twice; of those that an end has left, what is listed is what has ended; and each live
-- dialog is a call with exactly one other.
pub record ListsLive (calls : List StandingCall) (t : List Datagram) : Type 0 where
  pub live : AllOf (λ c. holds_in has_session c.call.standing ≡ true → IsLiveCall t c) calls
  pub listed : (caller callee : Dialog) → CallFrom offering t caller callee → Live t caller → Live t callee → AnyOf (IsTalking caller callee) calls
  pub once : EachTalksApart calls
  pub left : ListsLeft calls t
  pub one_call : (d : Dialog) → Live t d → IsOneCall offering t d
