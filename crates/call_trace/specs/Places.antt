-- Exchanges by their places in a trace.
use Rattle.std.specs.Prelude.{◌≡◌, List}
use Rattle.call_trace.specs.declared.datagram.Datagram.{Datagram}
use Rattle.call_trace.specs.declared.exchange.Places.{Places}
use Rattle.call_trace.specs.Exchanges.{At, Exchange}

-- what is at these places
abbrev pub exchange : Places → Datagram → Datagram → Exchange
exchange at asked answered = record { asked_at = at.asked; answered_at = at.answered; asked = asked; answered = answered }

-- the request and the response of the exchange are at these places of the trace
pub record IsAtPlaces (t : List Datagram) (at : Places) (e : Exchange) : Type 0 where
  pub asked_at : e.asked_at ≡ at.asked
  pub answered_at : e.answered_at ≡ at.answered
  pub at_asked : At t e.asked_at e.asked
  pub at_answered : At t e.answered_at e.answered

-- what is at these places has the property
abbrev pub HoldsAt : List Datagram → Places → (Exchange → Type 0) → Type 0
HoldsAt t at P = (e : Exchange) × IsAtPlaces t at e × P e

-- what is at the first places and what is at the second have the property together
abbrev pub HoldTogether : List Datagram → Places → Places → (Exchange → Exchange → Type 0) → Type 0
HoldTogether t x y P = HoldsAt t x (λ e. HoldsAt t y (λ f. P e f))
