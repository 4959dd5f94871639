-- The trace of a live server: what its wire took and was asked to send, by the events that the agent made of it.
use Rattle.std.specs.Prelude.{◌≡◌, ℕ, ◌+◌, List, [], ◌∷◌, ◌++◌, length, Option, Some, None}
use Rattle.std.specs.List.{All}
use Rattle.call_trace.specs.declared.datagram.Datagram.{Datagram}
use Rattle.relay.specs.Lists.{table_after}
use Rattle.event_rows.specs.State.{office}
use Rattle.event_rows.specs.Trace.{AreEntries, Entry, after_entries}
use Rattle.message_laws.specs.Datagrams.{EntersFromSource, IsNoDatagram}
use Rattle.message_laws.specs.Knowledge.{sends_of}
use Rattle.message_laws.specs.Traces.{AreTrace}
use Rattle.media_laws.specs.Keeping.{HasPromisedCalls, RelaysLive}
use Rattle.media_laws.specs.Living.{ListsLive}
use Rattle.media_laws.specs.Standing.{AgentStands}
use Rattle.live.specs.Arrivals.{Arrival, comes}
use Rattle.live.specs.Rounds.{Rounds}
use Rattle.live.specs.States.{State}
use Rattle.live.specs.declared.news.News.{News}
use Rattle.live.specs.declared.round.Round.{Round}
use Rattle.live.specs.declared.streaks.End.{End}
use Rattle.live.specs.declared.streaks.End.TheVariants.{Turns, Stopped, Socket, Memory}

-- ---- what came, and what the agent made of it

-- A datagram that came, a timer that fired, or news, and its entry: the event, with its answer and what was sent. One
-- that was lost has no entry, and counts as not come.
pub record Happening : Type 0 where
  pub arrival : Option Arrival
  pub entry : Option Entry

-- the entry is of that datagram, or of what is none
abbrev pub IsOf : Option Arrival → Option Entry → Type 0
IsOf arrival None = Unit {0}
IsOf None (Some x) = IsNoDatagram x.event.what
IsOf (Some d) (Some x) = x.event.what ≡ comes d

abbrev pub IsHappening : Happening → Type 0
IsHappening h = IsOf h.arrival h.entry

abbrev pub with_first : {T : Type 0} → Option T → List T → List T
with_first None xs = xs
with_first (Some x) xs = x ∷ xs

abbrev pub arrivals_of : List Happening → List Arrival
arrivals_of [] = []
arrivals_of (h ∷ hs) = with_first h.arrival (arrivals_of hs)

abbrev pub entries_of : List Happening → List Entry
entries_of [] = []
entries_of (h ∷ hs) = with_first h.entry (entries_of hs)

-- ---- the wire and the agent

-- The wire took the datagrams of these happenings, in order, and was asked to send what their entries say, each once
-- and in order; and these are the entries of the agent, which is as they leave it.
pub record Happens (a b : State) (hs : List Happening) : Type 0 where
  pub each : All IsHappening hs
  pub taken : b.wire.taken ≡ a.wire.taken ++ arrivals_of hs
  pub asked : b.wire.tried.asked ≡ a.wire.tried.asked ++ sends_of (entries_of hs)
  pub entries : AreEntries a.agent (entries_of hs)
  pub sources : All EntersFromSource (entries_of hs)
  pub agent : b.agent ≡ after_entries a.agent (entries_of hs)

-- ---- the promise

-- The agent's invariant holds after this trace of `k` events, and so does the media promise of its calls. The table
-- that was published to the board's viewers has the rows of the live calls and no others, and its answered calls are
-- the live ones.
pub record KeepsLive (b : State) (t : List Datagram) (k : ℕ) : Type 0 where
  pub stands : AgentStands b.agent t k
  pub promised : HasPromisedCalls (office b.agent) t k
  pub relays : RelaysLive b.agent.range.ip (table_after b.lists) t
  pub lives : ListsLive b.agent.calls.calls t

-- For an agent whose invariant held after this trace of `k` events: what happened, read by the grammar, has a trace,
-- and the same is kept after that, for any trace of it.
pub record KeepsAfter (b : State) (hs : List Happening) (t : List Datagram) (k : ℕ) : Type 0 where
  pub trace : (rest : List Datagram) × AreTrace k (entries_of hs) rest
  pub keeps : (rest : List Datagram) → AreTrace k (entries_of hs) rest → KeepsLive b (t ++ rest) (k + length (entries_of hs))

-- this holds after each trace after which the invariant held, as it does for a new agent after none
abbrev pub KeepsThrough : State → State → List Happening → Type 0
KeepsThrough a b hs = (t : List Datagram) (k : ℕ) → AgentStands a.agent t k → KeepsAfter b hs t k

pub record LivesOn (a b : State) : Type 0 where
  pub happenings : List Happening
  pub happens : Happens a b happenings
  pub keeps : KeepsThrough a b happenings

-- it held until one round before
pub record LivedUntilLast (a b : State) : Type 0 where
  pub mid : State
  pub lives : LivesOn a mid
  pub now : ℕ
  pub salt : ℕ
  pub news : Option News
  pub round : Round
  pub last : Rounds now salt news mid b round

-- This holds at each end except one by memory, whose last round may have left the board out of date.
abbrev pub LivesUntil : State → State → End → Type 0
LivesUntil a b Turns = LivesOn a b
LivesUntil a b Stopped = LivesOn a b
LivesUntil a b Socket = LivesOn a b
LivesUntil a b Memory = LivedUntilLast a b
