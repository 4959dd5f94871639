-- What the trace has of what is sent again, and of what a response replies to.
use Rattle.std.proofs.Common.{◌≡◌, ℕ, false, List, Some, refl, sym, subst}
use Rattle.events.specs.declared.sent.Sent.{Sent}
use Rattle.sip_message.specs.Grammar.{ReadsMessage}
use Rattle.sip_message.specs.declared.message.Message.TheVariants as Kinds
use Rattle.sip_message.specs.declared.message.Response.{Response}
use Rattle.transactions.specs.Matching.{RepliesTo}
use Rattle.transactions.specs.Slots.{at}
use Rattle.transactions.specs.declared.transaction.Transaction.{Transaction}
use Rattle.plans.specs.Office.{Office}
use Rattle.call_trace.specs.declared.datagram.Datagram.{Datagram}
use Rattle.call_trace.specs.declared.datagram.Direction.TheVariants as directions
use Rattle.call_trace.specs.declared.datagram.Message.{Message as TraceMessage}
use Rattle.call_trace.specs.Events.{IsIdleTaken, swallowed}
use Rattle.call_trace.specs.Exchanges.{At}
use Rattle.call_trace.specs.Messages.{Replies, offering}
use Rattle.call_trace.specs.Stands.{AsksAt}
use Rattle.message_laws.specs.Sending.{WasSent}
use Rattle.message_laws.specs.Waiting.{IsOffering, waits}
use Rattle.message_laws.specs.KnownTrace.{KnowsTrace}
use Rattle.message_laws.specs.Messages.{IsMessage, IsRequestOf}
use Rattle.message_laws.proofs.Traces.Places.{was_place}
use Rattle.message_laws.proofs.Traces.ReadTexts.{read_as, same_message}
use Rattle.message_laws.proofs.Traces.TraceRequests.{response_replies, same_request}

pub again_stands : (s : Office) (begun : List Transaction) (sent : List Sent) (t : List Datagram) (bytes : List ℕ) (m : TraceMessage) → KnowsTrace s begun sent t → WasSent sent bytes → IsMessage bytes m
    → (k : ℕ) × (q : Datagram) × At t k q × (q.direction ≡ directions.Sent) × (q.message ≡ m)
again_stands s begun sent t bytes m k was h =
    let w = was_place t sent bytes k.sent was in
    (w.0, w.1, w.2, w.3, same_message bytes w.1.message m (subst (λ (text : List ℕ). IsMessage text w.1.message) w.4 (k.read w.0 w.1 w.2)) h)

pub replies_stand : (s : Office) (begun : List Transaction) (sent : List Sent) (t : List Datagram) (id : ℕ) (x : Transaction) (bytes : List ℕ) (r : Response) (m : TraceMessage) → KnowsTrace s begun sent t → at s.table.slots id ≡ Some x → IsOffering x
    → RepliesTo r.parts x.parts → ReadsMessage bytes (Kinds.Response r) → IsMessage bytes m → (i : ℕ) × (q : Datagram) × AsksAt offering t i q × IsRequestOf x.parts q.message × Replies m q.message
replies_stand s begun sent t id x bytes r m k there offers replies reads h =
    let b = k.stands id x there offers in
    let q = k.asked b.0 b.1 b.2 in
    let request : IsRequestOf x.parts q.1.message = same_request b.0.parts x.parts q.1.message b.3 q.3 in
    (q.0, q.1, q.2, request, subst (λ (y : TraceMessage). Replies y q.1.message) (sym (read_as bytes m (Kinds.Response r) h reads)) (response_replies bytes r x.parts q.1.message replies request))

pub late_is_swallowed : (s : Office) (begun : List Transaction) (sent : List Sent) (t : List Datagram) (id : ℕ) (x : Transaction) (bytes : List ℕ) (r : Response) (m : TraceMessage) → KnowsTrace s begun sent t → at s.table.slots id ≡ Some x → IsOffering x
    → waits x.state ≡ false → RepliesTo r.parts x.parts → ReadsMessage bytes (Kinds.Response r) → IsMessage bytes m → IsIdleTaken offering t (Some m)
late_is_swallowed s begun sent t id x bytes r m k there offers none replies reads h =
    let a = k.answered id x there offers none in
    let answer = subst (λ (y : TraceMessage). Replies y a.1.message) (sym (read_as bytes m (Kinds.Response r) h reads)) (response_replies bytes r x.parts a.1.message replies a.5) in
    swallowed m a.0 a.2 a.1 a.3 refl a.4 (sym answer.branch) a.6 a.7
