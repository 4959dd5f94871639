-- What is known before an event: of the agent, of the trace of the events before it, and of the calls of that trace.
use Rattle.std.specs.Prelude.{◌++◌, ℕ, List, Option}
use Rattle.std.specs.List.{All}
use Rattle.event_rows.specs.Rows.{after, row}
use Rattle.event_rows.specs.State.{Contents, office}
use Rattle.call_trace.specs.Events.{passed}
use Rattle.call_trace.specs.Lives.{Stands}
use Rattle.call_trace.specs.Messages.{offering}
use Rattle.call_trace.specs.declared.call.Call.{Call}
use Rattle.call_trace.specs.declared.datagram.Datagram.{Datagram}
use Rattle.call_trace.specs.declared.datagram.Message.{Message}
use Rattle.events.specs.declared.event.Event.{Event}
use Rattle.events.specs.declared.sent.Sent.{Sent}
use Rattle.media_laws.specs.Answers.{KnowsAnswers}
use Rattle.media_laws.specs.Byes.{KnowsByes}
use Rattle.media_laws.specs.Taken.{KnowsTaken}
use Rattle.plans.specs.Office.{Office}
use Rattle.message_laws.specs.Knowing.{KnowsTokens}
use Rattle.message_laws.specs.Numbers.{KnowsNumbers, begun_of}
use Rattle.message_laws.specs.OpenRequests.{HasAsked}
use Rattle.message_laws.specs.Sending.{KnowsSent}
use Rattle.message_laws.specs.Waiting.{KnowsWaiting}
use Rattle.media_laws.specs.Late.{KnowsLate}
use Rattle.media_laws.specs.Machines.{KnowsMachines}
use Rattle.message_laws.specs.Comings.{KnowsScenes}
use Rattle.message_laws.specs.Serving.{AreStaged}
use Rattle.media_laws.specs.Steps.{GoOn}
use Rattle.media_laws.specs.Taking.{KnowsLegs}
use Rattle.media_laws.specs.Listing.{Listed}
use Rattle.media_laws.specs.Shows.{ShowsCall}
use Rattle.message_laws.specs.Asked.{KnowsAsked}
use Rattle.message_laws.specs.KnownTrace.{KnowsTrace}
use Rattle.transactions.specs.declared.transaction.Transaction.{Transaction}

-- ---- the agent, which began these transactions and sent these datagrams, and the trace of it

pub record KnowsAgent (s : Office) (begun : List Transaction) (sent : List Sent) (t : List Datagram) : Type 0 where
  pub trace : KnowsTrace s begun sent t
  pub tokens : KnowsTokens s
  pub waiting : KnowsWaiting s
  pub again : KnowsSent s sent
  pub machines : KnowsMachines s
  pub scenes : KnowsScenes s
  pub legs : KnowsLegs s
  pub numbers : KnowsNumbers s begun
  pub asked : All (HasAsked begun) s.calls.calls
  pub offers : KnowsAsked s
  pub counted : KnowsTaken s
  pub staged : AreStaged s

-- ---- the calls of the trace, after this many events

-- they show those of the server, and stand after the trace; what is known of late 2xx, of the answers that were sent,
-- and of the 200s to BYEs
pub record IsTied (s : Office) (begun : List Transaction) (sent : List Sent) (t : List Datagram) (calls : List Call) (k : ℕ) : Type 0 where
  pub known : KnowsAgent s begun sent t
  pub stands : Stands offering calls k t
  pub listed : Listed (ShowsCall s.table.slots begun t) s.calls.calls calls
  pub late : KnowsLate s begun t calls
  pub answers : KnowsAnswers s t
  pub byes : KnowsByes s t

-- ---- an event

-- what it took and sent is a move of these calls, after which the trace's calls show the calls current then
abbrev pub IsMoved : Contents → Event → List Transaction → List Datagram → List Call → ℕ → Option Message → List Message → Type 0
IsMoved s event begun t calls k taken sent =
    GoOn (ShowsCall (office (after s event)).table.slots (begun ++ begun_of (row s event).plan.changes) (t ++ passed k taken sent)) (office (after s event)).calls.calls t calls taken sent
