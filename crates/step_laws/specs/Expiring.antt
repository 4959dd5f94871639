-- What a step does for an offer that gets no final response in time.
use Rattle.std.specs.Prelude.{◌≡◌, ◌≤◌, ◌<◌, ℕ, true, List, [], ◌∷◌, ◌++◌, Some, None}
use Rattle.dialogs.specs.declared.state.Dialog.{Dialog}
use Rattle.timers.specs.Queue.{first_due}
use Rattle.timers.specs.declared.timers.Timer.{Timer}
use Rattle.transactions.specs.Contents.{fired_of}
use Rattle.transactions.specs.Slots.{at}
use Rattle.transactions.specs.declared.outcome.Fired.TheVariants as fires
use Rattle.transactions.specs.declared.transaction.TimerId.{TimerId}
use Rattle.transactions.specs.declared.transaction.Transaction.{Transaction}
use Rattle.events.specs.declared.event.Event.{Event}
use Rattle.events.specs.declared.event.What.TheVariants as whats
use Rattle.call_core.specs.Calls.{dialog_of}
use Rattle.call_core.specs.declared.action.CallTimer.{CallTimer}
use Rattle.call_core.specs.declared.action.CallTimer.TheVariants as timers
use Rattle.call_media.specs.Ends.{other}
use Rattle.call_media.specs.declared.end.End.{End}
use Rattle.call_rules.specs.Responses.{timeout_rule}
use Rattle.calls.specs.Finding.{place_by_number}
use Rattle.calls.specs.declared.standing_call.StandingCall.{StandingCall}
use Rattle.calls.specs.declared.timer_id.CallTimerId.{CallTimerId}
use Rattle.event_rows.specs.Rows.{only_counts}
use Rattle.event_rows.specs.State.{Contents, moment_at}
use Rattle.plans.specs.CallRows.{times_responses}
use Rattle.plans.specs.Effect.{Effect}
use Rattle.step_laws.specs.Leaving.{bye}
use Rattle.step_laws.specs.Sending.{Going, Sends}

-- a timer of this kind of the call at this place is due, and none before it
pub record CallTimerIsDue (s : Contents) (event : Event) (place : ℕ) (kind : CallTimer) : Type 0 where
  pub due : event.what ≡ whats.Due
  pub counts : only_counts s event ≡ None
  pub timer : Timer CallTimerId
  pub first : first_due s.calls.timers (moment_at s event.now) ≡ Some timer
  pub kind_is : timer.key.timer ≡ kind
  pub before : (other : Timer TimerId) → first_due s.table.timers (moment_at s event.now) ≡ Some other → timer.at < other.at
  pub call : place_by_number timer.key.number s.calls.calls ≡ Some place

-- the end that is asked has taken longer than it may, after its first provisional response (the server's own)
abbrev pub LimitIsReached : Contents → Event → ℕ → Type 0
LimitIsReached s event place = CallTimerIsDue s event place timers.Limit

-- timer B or F of the request that was passed on for the open offer of the call at this place runs out (RFC 3261
-- sections 17.1.1.2 and 17.1.2.2); no timer is due before this one
pub record RequestTimesOut (s : Contents) (event : Event) (place : ℕ) : Type 0 where
  pub due : event.what ≡ whats.Due
  pub counts : only_counts s event ≡ None
  pub timer : Timer TimerId
  pub first : first_due s.table.timers (moment_at s event.now) ≡ Some timer
  pub before : (other : Timer CallTimerId) → first_due s.calls.timers (moment_at s event.now) ≡ Some other → timer.at ≤ other.at
  pub asked : Transaction
  pub stands : at s.table.slots timer.key.id ≡ Some asked
  pub times : times_responses timer.key.kind ≡ true
  pub ends : fired_of (at s.table.slots timer.key.id) timer.key.kind ≡ Some fires.TimedOut
  pub call : timeout_rule s.calls.calls asked.parts ≡ Some place

-- both ends get a BYE, each in its own dialog, first the one across from the offerer, after this (section 12.2.1.2)
pub record LeavesBoth (before : List Going) (c : StandingCall) (offerer : End) (x : Effect) : Type 0 where
  pub across : Dialog
  pub own : Dialog
  pub with_other : dialog_of (other offerer) c.call ≡ Some across
  pub with_own : dialog_of offerer c.call ≡ Some own
  pub sends : Sends (before ++ bye across ∷ bye own ∷ []) x
