-- How an agent stands after the trace of this many events: what is known of it, of the trace, and of the calls of
-- that trace.
use Rattle.event_rows.specs.State.{Contents, office}
use Rattle.event_rows.specs.Trace.{Entry}
use Rattle.events.specs.declared.event.What.{What}
use Rattle.plans.specs.declared.taken.Taken.{Taken}
use Rattle.call_trace.specs.Events.{passed}
use Rattle.call_trace.specs.declared.datagram.Message.{Message}
use Rattle.message_laws.specs.Datagrams.{EntersFromSource, IsOwnDatagram}
use Rattle.message_laws.specs.Traces.{AreTrace, IsPassed}
use Rattle.std.specs.Prelude.{List, Option, length, suc, ℕ, ◌++◌, ◌+◌, ◌≡◌}
use Rattle.std.specs.List.{All}
use Rattle.call_trace.specs.Lives.{Stands}
use Rattle.call_trace.specs.Messages.{offering}
use Rattle.call_trace.specs.Stands.{AsksAt}
use Rattle.call_trace.specs.declared.call.Call.{Call}
use Rattle.call_trace.specs.declared.datagram.Datagram.{Datagram}
use Rattle.events.specs.declared.sent.Sent.{Sent}
use Rattle.plans.specs.Office.{Office}
use Rattle.message_laws.specs.Askers.{KnowsAskers}
use Rattle.message_laws.specs.Bodies.{KnowsDescriptions}
use Rattle.message_laws.specs.CalleeDialogs.{KnowsCallees}
use Rattle.message_laws.specs.Knowing.{KnowsTokens}
use Rattle.message_laws.specs.Numbers.{KnowsNumbers}
use Rattle.message_laws.specs.OpenRequests.{IsAmong, KnowsRequests}
use Rattle.message_laws.specs.Sending.{KnowsSent}
use Rattle.message_laws.specs.Sound.{KnowsDialogs}
use Rattle.message_laws.specs.Waiting.{IsOffering, KnowsWaiting}
use Rattle.media_laws.specs.Answers.{KnowsAnswers}
use Rattle.media_laws.specs.Byes.{KnowsByes}
use Rattle.media_laws.specs.Coming.{KnowsNumbersLeft}
use Rattle.media_laws.specs.Late.{IsAnsweredOrEnded, IsLater, dialog_asked}
use Rattle.media_laws.specs.Listing.{Listed}
use Rattle.media_laws.specs.Machines.{KnowsMachines}
use Rattle.media_laws.specs.Shows.{ShowsCall}
use Rattle.media_laws.specs.Taken.{KnowsTaken}
use Rattle.message_laws.specs.ReadDatagrams.{IsReadDatagram}
use Rattle.message_laws.specs.SoundClients.{KnowsClients}
use Rattle.message_laws.specs.Serving.{KnowsServing}
use Rattle.message_laws.specs.Asked.{KnowsAsked}
use Rattle.message_laws.specs.KnownTrace.{KnowsTrace}
use Rattle.message_laws.specs.Messages.{AreMessages, IsRequestOf}
use Rattle.transactions.specs.declared.transaction.Transaction.{Transaction}

-- ---- the agent, which began these transactions and sent these datagrams, and the trace of it

pub record Knows (s : Office) (begun : List Transaction) (sent : List Sent) (t : List Datagram) : Type 0 where
  pub trace : KnowsTrace s begun sent t
  pub tokens : KnowsTokens s
  pub waiting : KnowsWaiting s
  pub again : KnowsSent s sent
  pub machines : KnowsMachines s
  pub dialogs : KnowsDialogs s
  pub clients : KnowsClients s
  pub media : KnowsDescriptions s
  pub askers : KnowsAskers s
  pub own : All IsOwnDatagram sent
  pub reads : All IsReadDatagram sent
  pub callees : KnowsCallees s
  pub left : KnowsNumbersLeft s
  pub numbers : KnowsNumbers s begun
  pub requests : KnowsRequests s begun
  pub offers : KnowsAsked s
  pub counted : KnowsTaken s
  pub serving : KnowsServing s

-- ---- the requests of the trace

-- it has the request of one that began
abbrev pub IsOfBegun : List Transaction → Message → Type 0
IsOfBegun begun m = (u : Transaction) × IsAmong begun u × IsOffering u × IsRequestOf u.parts m

-- the same holds for each INVITE and UPDATE that was sent
abbrev pub AreOfBegun : List Transaction → List Datagram → Type 0
AreOfBegun begun t = (i : ℕ) (q : Datagram) → AsksAt offering t i q → IsOfBegun begun q.message

-- ---- the calls

-- whatever comes, after this many events
pub record IsUpheld (s : Office) (begun : List Transaction) (sent : List Sent) (t : List Datagram) (calls : List Call) (k : ℕ) : Type 0 where
  pub known : Knows s begun sent t
  pub stands : Stands offering calls k t
  pub listed : Listed (ShowsCall s.table.slots begun t) s.calls.calls calls
  pub late : (u : Transaction) → IsAmong begun u → IsLater u → IsAnsweredOrEnded t calls (dialog_asked u.parts)
  pub answers : KnowsAnswers s t
  pub byes : KnowsByes s t
  pub of_begun : AreOfBegun begun t

-- of some calls
abbrev pub UpholdsCalls : Office → List Transaction → List Sent → List Datagram → ℕ → Type 0
UpholdsCalls s begun sent t k = (calls : List Call) × IsUpheld s begun sent t calls k

-- ---- the agent stands after this trace of this many events

abbrev pub AgentStands : Contents → List Datagram → ℕ → Type 0
AgentStands s t k = (begun : List Transaction) × (sent : List Sent) × UpholdsCalls (office s) begun sent t k

-- an event that has this answer, and puts what it sends after what was sent: it stands after the trace with what that
-- took and sent
abbrev pub StandsOn : Contents → What → Taken → List Sent → List Sent → Contents → Type 0
StandsOn s what answer before now later =
    (t : List Datagram) (k : ℕ) → AgentStands s t k → (sends : List Sent) → now ≡ before ++ sends → (taken : Option Message) (ms : List Message) → IsPassed what answer sends taken ms
    → AgentStands later (t ++ passed k taken ms) (suc k)

-- entries that were put after the earlier ones are of datagrams that came from addresses
abbrev pub PutsFromSource : List Entry → List Entry → Type 0
PutsFromSource before now = (more : List Entry) → now ≡ before ++ more → All EntersFromSource more

-- where an agent stood after a trace of this many events: these entries have a trace, and it stands after that with
-- any trace of theirs
pub record StandsAfter (t : List Datagram) (k : ℕ) (more : List Entry) (later : Contents) : Type 0 where
  pub trace : (rest : List Datagram) × AreTrace k more rest
  pub stands : (rest : List Datagram) → AreTrace k more rest → AgentStands later (t ++ rest) (k + length more)

-- the same holds for entries that were put after the earlier ones
abbrev pub StandsThrough : Contents → List Entry → List Entry → Contents → Type 0
StandsThrough s before now later = (t : List Datagram) (k : ℕ) → AgentStands s t k → (more : List Entry) → now ≡ before ++ more → StandsAfter t k more later

-- what an event puts after what was sent are messages by the grammar, so that the trace has each of them (RFC 3261
-- section 7)
abbrev pub SaysMessages : Contents → List Sent → List Sent → Type 0
SaysMessages s before now =
    (t : List Datagram) (k : ℕ) → AgentStands s t k → (sends : List Sent) → now ≡ before ++ sends → (ms : List Message) × AreMessages sends ms
