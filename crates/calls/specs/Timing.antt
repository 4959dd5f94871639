-- The timers of calls.
use Rattle.std.specs.Prelude.{ℕ, ◌+◌, ◌&&◌, ◌==◌, Bool, true, false, min, List, [], ◌∷◌, is_some, if◌then◌else◌}
use Rattle.timers.specs.declared.timers.Timer.{Timer}
use Rattle.timers.specs.Queue as queues
use Rattle.call_core.specs.declared.action.Action.{Action}
use Rattle.call_core.specs.declared.action.Action.TheVariants as actions
use Rattle.call_core.specs.declared.action.CallTimer.{CallTimer}
use Rattle.call_core.specs.declared.action.CallTimer.TheVariants.{Limit, Repeat, Wait, Lifetime}
use Rattle.call_core.specs.declared.plan.Plan.{Plan}
use Rattle.call_core.specs.Plans.{Step}
use Rattle.calls.specs.declared.timer_id.CallTimerId.{CallTimerId}

abbrev pub same_kind : CallTimer → CallTimer → Bool
same_kind Limit Limit = true
same_kind Limit Repeat = false
same_kind Limit Wait = false
same_kind Limit Lifetime = false
same_kind Repeat Limit = false
same_kind Repeat Repeat = true
same_kind Repeat Wait = false
same_kind Repeat Lifetime = false
same_kind Wait Limit = false
same_kind Wait Repeat = false
same_kind Wait Wait = true
same_kind Wait Lifetime = false
same_kind Lifetime Limit = false
same_kind Lifetime Repeat = false
same_kind Lifetime Wait = false
same_kind Lifetime Lifetime = true

abbrev pub same_timer : CallTimerId → CallTimerId → Bool
same_timer a b = a.number == b.number && same_kind a.timer b.timer

abbrev pub id : ℕ → CallTimer → CallTimerId
id number timer = record { number = number; timer = timer }

-- a moment that can't be counted any more is the last
abbrev pub moment_after : ℕ → ℕ → ℕ
moment_after now after = min 18446744073709551615 (now + after)

-- what an action does to the timers of the call of this number
abbrev pub timed_by : ℕ → ℕ → List (Timer CallTimerId) → Action → List (Timer CallTimerId)
timed_by now number timers (actions.Set timer after) = queues.set same_timer timers (id number timer) (moment_after now after)
timed_by now number timers (actions.Stop timer) = queues.without same_timer timers (id number timer)
timed_by now number timers action = timers

-- actions, in order
abbrev pub timed : ℕ → ℕ → List (Timer CallTimerId) → List Action → List (Timer CallTimerId)
timed now number timers [] = timers
timed now number timers (action ∷ later) = timed now number (timed_by now number timers action) later

-- the timers of other calls
abbrev pub of_others : ℕ → List (Timer CallTimerId) → List (Timer CallTimerId)
of_others number timers =
    queues.without same_timer
    (queues.without same_timer
    (queues.without same_timer (queues.without same_timer timers (id number Limit)) (id number Repeat)) (id number Wait))
    (id number Lifetime)

-- the timers after a call of this number did this; a call that is gone has none
abbrev pub timers_after : ℕ → ℕ → Step → List (Timer CallTimerId) → List (Timer CallTimerId)
timers_after now number step timers =
    if is_some step.call.standing then timed now number timers step.actions else of_others number timers

-- the same, as it was planned
abbrev pub timers_planned : ℕ → ℕ → Plan → List (Timer CallTimerId) → List (Timer CallTimerId)
timers_planned now number plan timers =
    if is_some plan.next then timed now number timers plan.actions else of_others number timers
