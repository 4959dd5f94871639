-- What changes among the calls, as values.
use Rattle.std.specs.Prelude.{◌≡◌, ℕ, ◌+◌, ◌<◌, ◌≤◌, List, [], length, is_some, slice_get, slice_set, Option, Some, None, if◌then◌else◌}
use Rattle.std.specs.List.{remove}
use Rattle.port_pool.specs.declared.changes.Change.{Change}
use Rattle.call_core.specs.declared.plan.Plan.{Plan}
use Rattle.call_core.specs.Calls.{IsServed}
use Rattle.call_core.specs.Plans.{IsPlanned, Step, carried}
use Rattle.events.specs.declared.sent.Sent.{Sent}
use Rattle.calls.specs.declared.change.Beside.{Beside}
use Rattle.calls.specs.declared.change.CallChange.{CallChange}
use Rattle.calls.specs.declared.change.CallChange.TheVariants.{Unchanged, Begins, Carries, Puts}
use Rattle.calls.specs.declared.change.LegDialog.{LegDialog}
use Rattle.calls.specs.declared.standing_call.StandingCall.{StandingCall}
use Rattle.calls.specs.declared.standing_call.TakenOffer.{TakenOffer}
use Rattle.calls.specs.Carrying.{changed_at, pushed, with_answer, with_answered, with_dialog_at, with_step, with_taken}
use Rattle.calls.specs.State.{Contents, Standing}
use Rattle.calls.specs.Timing.{same_timer, timers_after}
use Rattle.calls.specs.declared.timer_id.CallTimerId.{CallTimerId}
use Rattle.timers.specs.Queue.{set, without}

-- the calls afterwards, and the changes of the relay table
pub record Outcome : Type 0 where
  pub standing : Standing
  pub changes : List Change

abbrev pub unchanged : Standing → Outcome
unchanged s = record { standing = s; changes = [] }

-- ---- a live call

abbrev pub with_leg : Option LegDialog → StandingCall → StandingCall
with_leg None c = c
with_leg (Some leg) c = with_dialog_at leg.end leg.dialog c

abbrev pub with_taken_if : Option TakenOffer → StandingCall → StandingCall
with_taken_if None c = c
with_taken_if (Some offer) c = with_taken offer c

-- a 200 that is new is the one that is sent again, and answers the offer that was taken last
abbrev pub with_last : Option Sent → StandingCall → StandingCall
with_last None c = c
with_last (Some answer) c = with_answer (Some answer) (with_answered c)

abbrev pub beside : Beside → StandingCall → StandingCall
beside kept c = with_last kept.answer (with_taken_if kept.taken (with_leg kept.leg c))

-- the call at this place did this, and has these beside it; one that is gone is taken off the list
abbrev pub after_step : Standing → ℕ → ℕ → Beside → StandingCall → Step → Outcome
after_step s now place kept c step = record {
  standing = record {
    calls = if is_some step.call.standing then slice_set s.calls place (beside kept (with_step c step)) else remove s.calls place;
    pool = step.pool;
    begun = s.begun;
    timers = timers_after now c.call.number step s.timers;
  };
  changes = step.changes;
}

abbrev pub carries : Standing → ℕ → ℕ → Beside → Plan → Option StandingCall → Outcome
carries s now place kept plan None = unchanged s
carries s now place kept plan (Some c) = after_step s now place kept c (carried c.call s.pool now plan)

-- ---- a call that begins, after the others

abbrev pub after_first_step : Standing → ℕ → StandingCall → Step → Outcome
after_first_step s now c step = record {
  standing = record {
    calls = pushed (with_step c step) s.calls;
    pool = step.pool;
    begun = s.begun + 1;
    timers = timers_after now c.call.number step s.timers;
  };
  changes = step.changes;
}

-- ---- a dialog alone

abbrev pub with_calls : List StandingCall → Standing → Standing
with_calls calls s = record { calls = calls; pool = s.pool; begun = s.begun; timers = s.timers }

abbrev pub puts : Standing → ℕ → LegDialog → Outcome
puts s place leg =
    unchanged (with_calls (changed_at (with_dialog_at leg.end leg.dialog) place s.calls (slice_get s.calls place)) s)

-- ---- what a change results in, at this moment

abbrev pub entered : Standing → ℕ → CallChange → Outcome
entered s now Unchanged = unchanged s
entered s now (Begins c plan) = after_first_step s now c (carried c.call s.pool now plan)
entered s now (Carries place kept plan) = carries s now place kept plan (slice_get s.calls place)
entered s now (Puts place leg) = puts s place leg

-- a change was planned on these calls, at this moment: so it can be entered
abbrev pub FitsChange : Standing → ℕ → CallChange → Type 0
FitsChange s now Unchanged = Unit {0}
FitsChange s now (Begins c plan) = (c.call.number ≡ s.begun + 1) × IsServed c.call s.pool × IsPlanned c.call s.pool now plan
FitsChange s now (Carries place kept plan) = (c : StandingCall) → slice_get s.calls place ≡ Some c → IsPlanned c.call s.pool now plan
FitsChange s now (Puts place leg) = Unit {0}

-- there is room for it
abbrev pub HasRoom : Contents → CallChange → Type 0
HasRoom s Unchanged = Unit {0}
HasRoom s (Begins c plan) = (0 < s.room) × (length plan.actions ≤ s.timer_room)
HasRoom s (Carries place kept plan) = length plan.actions ≤ s.timer_room
HasRoom s (Puts place leg) = Unit {0}

-- it sets at most this many timers
abbrev pub timers_set : CallChange → ℕ
timers_set Unchanged = 0
timers_set (Begins c plan) = length plan.actions
timers_set (Carries place kept plan) = length plan.actions
timers_set (Puts place leg) = 0

-- ---- a timer that fires, or is set to this moment

abbrev pub without_timer : CallTimerId → Standing → Standing
without_timer fired s = record { calls = s.calls; pool = s.pool; begun = s.begun; timers = without same_timer s.timers fired }

abbrev pub with_timer : CallTimerId → ℕ → Standing → Standing
with_timer timer at s = record { calls = s.calls; pool = s.pool; begun = s.begun; timers = set same_timer s.timers timer at }
