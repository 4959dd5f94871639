-- What is known of an agent that stands after a trace, where its event counts.
use Rattle.std.proofs.Common.{ℕ, ◌<◌, ◌^◌, List}
use Rattle.call_trace.specs.declared.call.Call.{Call}
use Rattle.call_trace.specs.declared.datagram.Datagram.{Datagram}
use Rattle.event_rows.specs.State.{Contents, office}
use Rattle.events.specs.declared.sent.Sent.{Sent}
use Rattle.plans.specs.Office.{Office}
use Rattle.media_laws.specs.Standing.{IsUpheld, Knows}
use Rattle.media_laws.specs.Taking.{KnowsLegs}
use Rattle.media_laws.specs.Ties.{AreTied}
use Rattle.message_laws.specs.Comings.{KnowsScenes}
use Rattle.transactions.specs.declared.transaction.Transaction.{Transaction}

pub scenes_known : (s : Office) (begun : List Transaction) (sent : List Sent) (t : List Datagram) → Knows s begun sent t → s.tokens < 2 ^ 63 → KnowsScenes s
scenes_known s begun sent t k few = record { dialogs = k.dialogs; clients = k.clients; descriptions = k.media; askers = k.askers; tokens = k.tokens; few = few }

pub tied_of : (s : Contents) (begun : List Transaction) (sent : List Sent) (t : List Datagram) (calls : List Call) (k : ℕ) → IsUpheld (office s) begun sent t calls k → s.tokens < 2 ^ 63
    → AreTied (office s) begun sent t calls
tied_of s begun sent t calls k h few = record {
  trace = h.known.trace;
  listed = h.listed;
  tokens = h.known.tokens;
  waiting = h.known.waiting;
  again = h.known.again;
  machines = h.known.machines;
  scenes = scenes_known (office s) begun sent t h.known few;
}

pub legs_known : (s : Office) (begun : List Transaction) (sent : List Sent) (t : List Datagram) → Knows s begun sent t → KnowsLegs s
legs_known s begun sent t k = record { dialogs = k.dialogs; callees = k.callees; left = k.left }
