-- What a round of the signalling does: it passes news to the agent, or fires what is due, or takes a datagram, or
-- waits.
use Rattle.std.specs.Prelude.{◌≡◌, ℕ, ◌+◌, ◌-◌, ◌^◌, Bool, true, false, nat_le, min, [], ◌∷◌, ◌++◌, Option, Some, None, ◌⊎◌, if◌then◌else◌}
use Rattle.sip_uri.specs.declared.uri.Addr.{Addr}
use Rattle.relay.specs.Lists.{Lists}
use Rattle.events.specs.declared.event.Event.{Event}
use Rattle.events.specs.declared.event.What.{What}
use Rattle.events.specs.declared.event.What.TheVariants.{Due}
use Rattle.rand_chacha.specs.ChaCha.{ChaCha}
use Rattle.event_rows.specs.Rows.{next_due}
use Rattle.event_rows.specs.State.{Contents}
use Rattle.live.specs.Arrivals.{Arrival, buffer_length, comes}
use Rattle.live.specs.News.{what_of}
use Rattle.live.specs.Salts.{after_salt}
use Rattle.live.specs.States.{OnlySends, State}
use Rattle.live.specs.Turns.{HasTable, Turns}
use Rattle.live.specs.declared.news.News.{News}
use Rattle.live.specs.declared.turn.Turned.{Turned}
use Rattle.live.specs.declared.turn.Turned.TheVariants.{Done, Lost, Behind}
use Rattle.live.specs.declared.round.Round.{Round}
use Rattle.live.specs.declared.round.Round.TheVariants.{Fired, Heard, Took, Waited, Failed}
use Rattle.live.specs.declared.streaks.Streaks.{Streaks}
use Rattle.live.specs.declared.streaks.End.{End}
use Rattle.live.specs.declared.streaks.End.TheVariants as ends

-- ---- moments, in milliseconds

-- something is due
abbrev pub is_due : ℕ → Option ℕ → Bool
is_due now None = false
is_due now (Some at) = nat_le at now

-- how long is waited at most
abbrev pub max_wait : ℕ
max_wait = 100

-- until the next moment that is due
abbrev pub wait_until : ℕ → Option ℕ → ℕ
wait_until now None = max_wait
wait_until now (Some at) = min max_wait (at - now)

-- ---- a round

abbrev pub event : ℕ → ℕ → What → Event
event now salt what = record { now = now; salt = salt; what = what }

-- the agent and the board are as they were, and nothing came or was to be sent
pub record Rests (a b : State) : Type 0 where
  pub agent : b.agent ≡ a.agent
  pub board : b.lists ≡ a.lists
  pub taken : b.wire.taken ≡ a.wire.taken
  pub tried : b.wire.tried ≡ a.wire.tried

-- the wire was asked once for a datagram, with room for the longest and one byte more
abbrev pub AsksForOne : State → State → Type 0
AsksForOne a b = b.wire.rooms ≡ a.wire.rooms ++ buffer_length ∷ []

-- it was asked once to wait, until the next moment that is due
abbrev pub WaitsUntilDue : ℕ → State → State → Type 0
WaitsUntilDue now a b = b.wire.waited ≡ a.wire.waited ++ wait_until now (next_due a.agent) ∷ []

abbrev pub NeverWaits : State → State → Type 0
NeverWaits a b = b.wire.waited ≡ a.wire.waited

-- a timer is due, and no datagram is asked for
pub record Fires (now salt : ℕ) (a b : State) (turned : Turned) : Type 0 where
  pub due : is_due now (next_due a.agent) ≡ true
  pub wire : OnlySends a.wire b.wire
  pub turns : Turns (event now salt Due) a b turned

-- the agent takes this news, and no datagram is asked for
pub record Hears (now salt : ℕ) (news : News) (a b : State) (turned : Turned) : Type 0 where
  pub wire : OnlySends a.wire b.wire
  pub turns : Turns (event now salt (what_of news)) a b turned

-- no timer is due, and a datagram from this source is taken
pub record Takes (now salt : ℕ) (source : Addr) (a b : State) (turned : Turned) : Type 0 where
  pub due : is_due now (next_due a.agent) ≡ false
  pub asks : AsksForOne a b
  pub arrival : Arrival
  pub from : arrival.source ≡ source
  pub taken : b.wire.taken ≡ a.wire.taken ++ arrival ∷ []
  pub waited : NeverWaits a b
  pub turns : Turns (event now salt (comes arrival)) a b turned

-- neither, and it waits
pub record Waits (now : ℕ) (a b : State) : Type 0 where
  pub due : is_due now (next_due a.agent) ≡ false
  pub asks : AsksForOne a b
  pub rests : Rests a b
  pub waited : WaitsUntilDue now a b
  pub failed : b.wire.failed ≡ false

-- neither, and the wire says that the receive or the wait failed
pub record Fails (now : ℕ) (a b : State) : Type 0 where
  pub due : is_due now (next_due a.agent) ≡ false
  pub asks : AsksForOne a b
  pub rests : Rests a b
  pub waited : NeverWaits a b ⊎ WaitsUntilDue now a b
  pub failed : b.wire.failed ≡ true

-- a round that had news
abbrev pub HearsIn : ℕ → ℕ → News → State → State → Round → Type 0
HearsIn now salt news a b (Heard turned) = Hears now salt news a b turned
HearsIn now salt news a b round = ⊥

-- one that had none
abbrev pub GoesOn : ℕ → ℕ → State → State → Round → Type 0
GoesOn now salt a b (Fired turned) = Fires now salt a b turned
GoesOn now salt a b (Heard turned) = ⊥
GoesOn now salt a b (Took source turned) = Takes now salt source a b turned
GoesOn now salt a b Waited = Waits now a b
GoesOn now salt a b Failed = Fails now a b

abbrev pub Rounds : ℕ → ℕ → Option News → State → State → Round → Type 0
Rounds now salt None a b round = GoesOn now salt a b round
Rounds now salt (Some news) a b round = HearsIn now salt news a b round

-- the stream after a round: each event has a salt of its own, even one that is lost
abbrev pub salts_after : ChaCha → Round → ChaCha
salts_after g (Fired turned) = after_salt g
salts_after g (Heard turned) = after_salt g
salts_after g (Took source turned) = after_salt g
salts_after g Waited = g
salts_after g Failed = g

-- ---- what ends the signalling

-- how many failures in a row end the signalling
abbrev pub max_in_a_row : ℕ
max_in_a_row = 100

abbrev pub one_more : ℕ → ℕ
one_more n = min (n + 1) (2 ^ 32 - 1)

-- an event that is lost leaves the receives as they are
abbrev pub lost_after : ℕ → Turned → ℕ
lost_after lost (Done taken failed) = 0
lost_after lost Lost = one_more lost
lost_after lost Behind = lost

-- a receive that succeeds, or a wait, resets the count of failures
abbrev pub streaks_after : Streaks → Round → Streaks
streaks_after x (Fired turned) = record { failed = x.failed; lost = lost_after x.lost turned }
streaks_after x (Heard turned) = record { failed = x.failed; lost = lost_after x.lost turned }
streaks_after x (Took source turned) = record { failed = 0; lost = lost_after x.lost turned }
streaks_after x Waited = record { failed = 0; lost = x.lost }
streaks_after x Failed = record { failed = one_more x.failed; lost = x.lost }

abbrev pub is_behind_turn : Turned → Bool
is_behind_turn (Done taken failed) = false
is_behind_turn Lost = false
is_behind_turn Behind = true

-- the board no longer has what the agent has
abbrev pub is_behind : Round → Bool
is_behind (Fired turned) = is_behind_turn turned
is_behind (Heard turned) = is_behind_turn turned
is_behind (Took source turned) = is_behind_turn turned
is_behind Waited = false
is_behind Failed = false

abbrev pub end_after : Streaks → Round → Option End
end_after x round =
    if is_behind round then Some ends.Memory
    else if nat_le max_in_a_row x.failed then Some ends.Socket
    else if nat_le max_in_a_row x.lost then Some ends.Memory
    else None

-- the board's table is the agent's, unless memory was refused
abbrev pub TableAt : Lists → Contents → End → Type 0
TableAt lists s ends.Turns = HasTable lists s
TableAt lists s ends.Stopped = HasTable lists s
TableAt lists s ends.Socket = HasTable lists s
TableAt lists s ends.Memory = Unit {0}
