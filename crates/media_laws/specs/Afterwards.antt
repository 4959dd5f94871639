-- The calls that an event leaves as they were, and the one that it changes.
use Rattle.std.specs.Prelude.{◌≡◌, ◌⊎◌, ℕ, true, false, List, Option, Some, remove, slice_get, slice_set}
use Rattle.transactions.specs.declared.transaction.Transaction.{Transaction}
use Rattle.calls.specs.declared.standing_call.StandingCall.{StandingCall}
use Rattle.call_trace.specs.declared.call.Call.{Call}
use Rattle.call_trace.specs.declared.datagram.Datagram.{Datagram}
use Rattle.message_laws.specs.OpenRequests.{HasAsked}
use Rattle.media_laws.specs.Listing.{Listed, is_listed}
use Rattle.media_laws.specs.Shows.{ShowsCall}

-- it is shown as before the event, and has begun the request of its open offer
abbrev pub IsLeft : List (Option Transaction) → List Transaction → List Datagram → StandingCall → Call → Type 0
IsLeft slots begun t c d = ShowsCall slots begun t c d × HasAsked begun c

-- or it is this call, which is now this one of the trace
abbrev pub IsLeftOr : List (Option Transaction) → List Transaction → List Datagram → StandingCall → Call → StandingCall → Call → Type 0
IsLeftOr slots begun t new shown c d = IsLeft slots begun t c d ⊎ ((c ≡ new) × (d ≡ shown))

-- ---- both lists as one call changes

-- the trace has it at this place; and as it goes on, is hidden or goes, both lists change together
pub record HasSpot (slots : List (Option Transaction)) (begun : List Transaction) (t : List Datagram) (cs : List StandingCall) (old : List Call) (place : ℕ) (c : StandingCall) : Type 0 where
  pub place_there : ℕ
  pub call : Call
  pub there : slice_get old place_there ≡ Some call
  pub shows : ShowsCall slots begun t c call
  pub goes_on : (new : StandingCall) (d : Call) → is_listed new ≡ true → Listed (IsLeftOr slots begun t new d) (slice_set cs place new) (slice_set old place_there d)
  pub hides : (new : StandingCall) → is_listed new ≡ false → Listed (IsLeft slots begun t) (slice_set cs place new) (remove old place_there)
  pub goes : Listed (IsLeft slots begun t) (remove cs place) (remove old place_there)
