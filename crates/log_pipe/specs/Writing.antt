-- How the lines of the log are written.
use Rattle.std.specs.Prelude.{◌≡◌, ◌⊎◌, ◌≤◌, ◌<◌, ◌++◌, [], ◌∷◌, ℕ, List, length}
use Rattle.std.specs.List.{All, concat, flat_map}
use Rattle.rtrb.specs.declared.consumer.Consumer.{Consumer}
use Rattle.rtrb.specs.Ring.{known_items, received}
use Rattle.sockets.specs.ErrorStreams.{Stream}
use Rattle.log_pipe.specs.declared.log_writer.LogWriter.{LogWriter}
use Rattle.log_pipe.specs.Limits.{max_block}

-- some bytes, and not too many to be written at once
abbrev pub IsBlock : List ℕ → Type 0
IsBlock bytes = (0 < length bytes) × (length bytes ≤ max_block)

-- what was taken from a ring was to be written in these blocks, in order, and nothing else was
pub record IsWrittenAs {A P : Type 0} (blocks : List (List ℕ)) (before after : Consumer ℕ A P) (old new : Stream) : Type 0 where
  pub taken : received after ≡ received before ++ concat blocks
  pub texts : new.texts ≡ old.texts ++ blocks
  pub each : All IsBlock blocks
  pub patience : new.patience ≤ old.patience

-- none are left in the ring, or the stream has given up
abbrev pub IsEmptied : {A P : Type 0} → Consumer ℕ A P → Stream → Type 0
IsEmptied ring stream = (known_items ring ≡ []) ⊎ (stream.patience ≡ 0)

pub record IsWritten {A P : Type 0} (before after : Consumer ℕ A P) (old new : Stream) : Type 0 where
  pub blocks : List (List ℕ)
  pub written : IsWrittenAs blocks before after old new
  pub emptied : IsEmptied after new

-- blocks of lines of the events, and then some of lines of the socket
pub record Round : Type 0 where
  pub of_events : List (List ℕ)
  pub of_sending : List (List ℕ)

abbrev pub blocks_of : Round → List (List ℕ)
blocks_of round = round.of_events ++ round.of_sending

-- What was taken from both rings was to be written in rounds, in order, and nothing else was.
pub record IsWrittenIn (rounds : List Round) (before after : LogWriter) : Type 0 where
  pub texts : after.stream.texts ≡ before.stream.texts ++ flat_map blocks_of rounds
  pub events : received after.events ≡ received before.events ++ concat (flat_map (λ round. round.of_events) rounds)
  pub sending : received after.sending ≡ received before.sending ++ concat (flat_map (λ round. round.of_sending) rounds)
  pub each : All (λ round. All IsBlock (blocks_of round)) rounds
  pub patience : after.stream.patience ≤ before.stream.patience

pub record Writes (before after : LogWriter) : Type 0 where
  pub rounds : List Round
  pub written : IsWrittenIn rounds before after

-- none are left, or the stream has given up
abbrev pub IsDone : LogWriter → Type 0
IsDone writer = ((known_items writer.events ≡ []) × (known_items writer.sending ≡ [])) ⊎ (writer.stream.patience ≡ 0)

-- one round
pub record WritesBoth (before after : LogWriter) : Type 0 where
  pub round : Round
  pub written : IsWrittenIn (round ∷ []) before after
  pub done : IsDone after
