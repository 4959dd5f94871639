-- What a step does for a call whose lifetime ends, or whose media have stopped.
use Rattle.std.specs.Prelude.{◌≡◌, ℕ, Some, None}
use Rattle.events.specs.declared.event.Event.{Event}
use Rattle.events.specs.declared.event.What.TheVariants as whats
use Rattle.call_core.specs.declared.action.CallTimer.TheVariants as timers
use Rattle.calls.specs.Finding.{place_by_number}
use Rattle.event_rows.specs.Rows.{only_counts}
use Rattle.event_rows.specs.State.{Contents}
use Rattle.step_laws.specs.Expiring.{CallTimerIsDue}

-- the call at this place has lived as long as it may (the server's own)
abbrev pub LifetimeIsOver : Contents → Event → ℕ → Type 0
LifetimeIsOver s event place = CallTimerIsDue s event place timers.Lifetime

-- no media have come for long in the call at this place (the server's own)
pub record FallsSilent (s : Contents) (event : Event) (place : ℕ) : Type 0 where
  pub number : ℕ
  pub silent : event.what ≡ whats.Silent number
  pub counts : only_counts s event ≡ None
  pub call : place_by_number number s.calls.calls ≡ Some place
