-- The ends of the log's rings.
use Rattle.std.specs.Prelude.{◌≡◌, ℕ, []}
use Rattle.rtrb.specs.declared.consumer.Consumer.{Consumer}
use Rattle.rtrb.specs.declared.producer.Producer.{Producer}
use Rattle.rtrb.specs.Ring.{IsPair, known_free, known_items, producer_capacity, received, sent}

-- the two ends of a ring with this much room, through which nothing has passed yet
pub record IsUnused {T A P : Type 0} (room : ℕ) (into : Producer T A P) (out : Consumer T A P) : Type 0 where
  pub pair : IsPair into out
  pub fits : producer_capacity into ≡ room
  pub free : known_free into ≡ room
  pub none : sent into ≡ []
  pub unread : received out ≡ []
  pub unseen : known_items out ≡ []
