-- What a turn of the signalling does.
use Rattle.std.specs.Prelude.{◌≡◌, ℕ, List, [], ◌∷◌, ◌++◌}
use Rattle.port_pool.specs.declared.changes.Change.{Change}
use Rattle.relay.specs.Lists.{Lists, table_after}
use Rattle.events.specs.declared.event.Event.{Event}
use Rattle.plans.specs.declared.taken.Taken.{Taken}
use Rattle.event_rows.specs.Rows.{after, row}
use Rattle.event_rows.specs.State.{Contents}
use Rattle.message_laws.specs.Datagrams.{ComesFromSource}
use Rattle.live.specs.Sending.{Sends}
use Rattle.live.specs.States.{State}
use Rattle.live.specs.declared.turn.Turned.{Turned}
use Rattle.live.specs.declared.turn.Turned.TheVariants.{Done, Lost, Behind}

-- the lists of the board with one list of changes more, if there are any
abbrev pub published : Lists → List Change → Lists
published lists [] = lists
published lists (c ∷ cs) = lists ++ (c ∷ cs) ∷ []

-- the board's table is the agent's
abbrev pub HasTable : Lists → Contents → Type 0
HasTable lists s = table_after lists ≡ s.calls.pool.rows

-- The agent takes the event as its step does, the board has its changes as one list more, and `failed` of the
-- datagrams that it sends fail. A datagram came from an address.
pub record Carries (e : Event) (a b : State) (taken : Taken) (failed : ℕ) : Type 0 where
  pub agent : b.agent ≡ after a.agent e
  pub answer : taken ≡ (row a.agent e).plan.taken
  pub board : b.lists ≡ published a.lists (after a.agent e).changes
  pub table : HasTable b.lists b.agent
  pub wire : Sends a.wire.tried b.wire.tried (row a.agent e).plan.sends failed
  pub source : ComesFromSource e.what

-- nothing is published or sent
pub record IsSilent (a b : State) : Type 0 where
  pub board : b.lists ≡ a.lists
  pub wire : b.wire.tried ≡ a.wire.tried

-- What an event leaves of agent, board and wire. An event that is lost counts as not come. If nothing could be
-- published, the agent took the event, but nothing was published or sent.
abbrev pub Turns : Event → State → State → Turned → Type 0
Turns e a b (Done taken failed) = Carries e a b taken failed
Turns e a b Lost = (b.agent ≡ a.agent) × IsSilent a b
Turns e a b Behind = (b.agent ≡ after a.agent e) × IsSilent a b
