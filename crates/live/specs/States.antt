-- The signalling at one moment, as clauses see it.
use Rattle.std.specs.Prelude.{◌≡◌, ℕ, Bool, List}
use Rattle.relay.specs.Lists.{Lists}
use Rattle.event_rows.specs.State.{Contents}
use Rattle.live.specs.Arrivals.{Arrival}
use Rattle.live.specs.Sending.{Tried}

-- What a wire took, and the room in bytes that it was given for each datagram; what it was asked to send, and what of
-- that went; how many milliseconds it was asked to wait, each time; and whether its last call failed.
pub record WireState : Type 0 where
  pub taken : List Arrival
  pub rooms : List ℕ
  pub tried : Tried
  pub waited : List ℕ
  pub failed : Bool

-- it was only asked to send
pub record OnlySends (a b : WireState) : Type 0 where
  pub taken : b.taken ≡ a.taken
  pub rooms : b.rooms ≡ a.rooms
  pub waited : b.waited ≡ a.waited

-- what an event can change: the agent, the lists of the board, and the wire
pub record State : Type 0 where
  pub agent : Contents
  pub lists : Lists
  pub wire : WireState
