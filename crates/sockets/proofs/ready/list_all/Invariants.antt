use Rattle.std.proofs.Common.{◌≡◌, ◌+◌, ◌++◌, length, map}
use Rattle.std.specs.Prelude.{vec_capacity, vec_len}
use Rattle.mio.specs.Event.{event_token}
use Rattle.mio.specs.Events.{items}
use Rattle.sockets.proofs.ready.list_all.Given as goal

-- the places of the events so far
abbrev pub invariant-loop-event : goal.invariant-loop-event
invariant-loop-event l = record {
  listed : l.places.items ≡ l.fn.places.items ++ map (λ e. (event_token e.now).0) l.yielded;
  len : vec_len l.places ≡ vec_len l.fn.places + length l.yielded;
  room : vec_capacity l.places ≡ vec_capacity l.fn.places;
}
