-- A call is at a place that a rule names.
use Rattle.std.specs.Prelude.{◌≡◌, ℕ, List, true, is_some, slice_get, Option, Some, None}
use Rattle.calls.specs.declared.standing_call.StandingCall.{StandingCall}

abbrev pub StandsAt : List StandingCall → ℕ → Type 0
StandsAt standing place = is_some (slice_get standing place) ≡ true

abbrev pub StandsIfAny : List StandingCall → Option ℕ → Type 0
StandsIfAny standing None = Unit {0}
StandsIfAny standing (Some place) = StandsAt standing place
