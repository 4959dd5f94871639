-- What comes in at the signalling's socket.
use Rattle.std.specs.Prelude.{◌≡◌, ℕ, List, [], ◌∷◌, ◌++◌, IfOk, Result}
use Rattle.std.specs.declared.alloc.AllocError.{AllocError}
use Rattle.sip_uri.specs.declared.uri.Addr.{Addr}
use Rattle.events.specs.declared.event.What.{What}
use Rattle.events.specs.declared.event.What.TheVariants.{Datagram}

-- a datagram, with where it came from
pub record Arrival : Type 0 where
  pub source : Addr
  pub bytes : List ℕ

-- one byte more than a datagram may have, so that a longer one is seen to be too long
abbrev pub buffer_length : ℕ
buffer_length = 16385

-- what comes with it
abbrev pub comes : Arrival → What
comes d = Datagram d.source d.bytes

-- One more is taken, from this source, and this is what comes with it, unless memory is refused for that.
pub record TakesOne (before after : List Arrival) (source : Addr) (what : Result What AllocError) : Type 0 where
  pub arrival : Arrival
  pub from : arrival.source ≡ source
  pub taken : after ≡ before ++ arrival ∷ []
  pub comes : IfOk what (λ w. w ≡ comes arrival)
