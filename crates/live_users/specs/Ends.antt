-- Both ends of the rings between the thread that looks at the configuration's file and the signalling.
use Rattle.std.specs.Prelude.{◌≡◌, ℕ, []}
use Rattle.rtrb.specs.declared.consumer.Consumer.{Consumer}
use Rattle.rtrb.specs.declared.producer.Producer.{Producer}
use Rattle.rtrb.specs.Ring.{IsPair, known_free, known_items, producer_capacity, received, sent}

-- this many wait at most
abbrev pub ring_room : ℕ
ring_room = 1

-- the two ends of a ring through which nothing has passed yet
pub record IsUnused {T A P : Type 0} (into : Producer T A P) (out : Consumer T A P) : Type 0 where
  pub pair : IsPair into out
  pub fits : producer_capacity into ≡ ring_room
  pub free : known_free into ≡ ring_room
  pub none : sent into ≡ []
  pub unread : received out ≡ []
  pub unseen : known_items out ≡ []
