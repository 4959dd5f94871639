-- What is known before an event: of the agent, of the trace of its events, and of the calls of that trace.
use Rattle.std.specs.Prelude.{List}
use Rattle.call_trace.specs.declared.call.Call.{Call}
use Rattle.call_trace.specs.declared.datagram.Datagram.{Datagram}
use Rattle.events.specs.declared.sent.Sent.{Sent}
use Rattle.plans.specs.Office.{Office}
use Rattle.message_laws.specs.Knowing.{KnowsTokens}
use Rattle.message_laws.specs.Sending.{KnowsSent}
use Rattle.message_laws.specs.Waiting.{KnowsWaiting}
use Rattle.message_laws.specs.Comings.{KnowsScenes}
use Rattle.media_laws.specs.Listing.{Listed}
use Rattle.media_laws.specs.Shows.{ShowsCall}
use Rattle.message_laws.specs.KnownTrace.{KnowsTrace}
use Rattle.transactions.specs.declared.transaction.Transaction.{Transaction}
use Rattle.media_laws.specs.Machines.{KnowsMachines}

pub record AreTied (s : Office) (begun : List Transaction) (sent : List Sent) (t : List Datagram) (ds : List Call) : Type 0 where
  pub trace : KnowsTrace s begun sent t
  pub listed : Listed (ShowsCall s.table.slots begun t) s.calls.calls ds
  pub tokens : KnowsTokens s
  pub waiting : KnowsWaiting s
  pub again : KnowsSent s sent
  pub machines : KnowsMachines s
  pub scenes : KnowsScenes s
