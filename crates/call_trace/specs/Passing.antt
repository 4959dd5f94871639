-- What one event takes of one end and sends to the other.
use Rattle.std.specs.Prelude.{◌≡◌, ◌⊎◌}
use Rattle.call_trace.specs.declared.datagram.Direction.TheVariants.{Taken, Sent}
use Rattle.call_trace.specs.declared.datagram.Datagram.{Datagram}
use Rattle.call_trace.specs.Exchanges.{Exchange}

-- one event took the first and sent the second, of the same method
pub record IsHandedOn (came went : Datagram) : Type 0 where
  pub taken : came.direction ≡ Taken
  pub sent : went.direction ≡ Sent
  pub event : came.event ≡ went.event
  pub method : came.message.method ≡ went.message.method

-- the offer of x was handed on as that of y, and the answer of y as that of x
pub record IsPassedOn (x y : Exchange) : Type 0 where
  pub offer : IsHandedOn x.asked y.asked
  pub answer : IsHandedOn y.answered x.answered

-- both offers are in one event and both answers in one event: one exchange was asked of the server, and the server
-- asked the other
abbrev pub PassedTogether : Exchange → Exchange → Type 0
PassedTogether x y = IsPassedOn x y ⊎ IsPassedOn y x
