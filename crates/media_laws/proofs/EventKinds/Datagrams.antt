-- A datagram that arrives, by what it is.
use Rattle.std.proofs.Common.{List, Ok, Option, ap, false, refl, subst, sym, ℕ, ◌++◌, ◌∙◌, ◌≡◌}
use Rattle.events.specs.declared.sent.Sent.{Sent}
use Rattle.sip_message.specs.Read.{message_of}
use Rattle.sip_message.specs.declared.message.Message.TheVariants as Kinds
use Rattle.sip_message.specs.declared.message.Response.{Response}
use Rattle.transactions.specs.Contents.{reception_of}
use Rattle.transactions.specs.declared.transaction.Transaction.{Transaction}
use Rattle.event_rows.specs.Rows.{is_unreachable_message}
use Rattle.plans.specs.Effect.{Effect}
use Rattle.plans.specs.Office.{Office}
use Rattle.plans.specs.declared.setting.Setting.{Setting}
use Rattle.call_trace.specs.declared.call.Call.{Call}
use Rattle.call_trace.specs.declared.datagram.Datagram.{Datagram}
use Rattle.call_trace.specs.declared.datagram.Message.{Message}
use Rattle.call_trace.specs.Events.{passed}
use Rattle.call_trace.specs.Messages.{offering}
use Rattle.call_trace.specs.Moves.{Move}
use Rattle.message_laws.specs.Messages.{AreMessages, IsTakenOf}
use Rattle.media_laws.specs.Shows.{ShowsCall}
use Rattle.media_laws.specs.Steps.{GoOn, IsAfter}
use Rattle.sip_message.specs.declared.message.Request.{Request}
use Rattle.message_laws.specs.Addresses.{IsSource}
use Rattle.media_laws.proofs.OfferPairs.ReachedAnswers.{reached}
use Rattle.sip_message.specs.declared.message.Message.{Message as Read}
use Rattle.message_laws.proofs.Messages.MessageViews.{IsResponseTo, begun_by}
use Rattle.media_laws.proofs.EventKinds.EventCases.{DatagramCase, EventCase, IsNotDone, MessageCase, ResponseCase}
use Rattle.media_laws.proofs.EventKinds.EventCases as cases
use Rattle.message_laws.proofs.Messages.RequestViews.{RequestRow}
use Rattle.media_laws.specs.Known.{IsTied}
use Rattle.media_laws.proofs.EventKinds.Laws.{Laws}
use Rattle.media_laws.proofs.EventKinds.Puts.{none_goes_on}
use Rattle.event_rows.specs.State.{Contents, after_event, office}
use Rattle.event_rows.specs.Rows.{after as after_step, moment_after, row}
use Rattle.events.specs.declared.event.Event.{Event}
use Rattle.media_laws.proofs.EndTags.ByesKnown.{next_tag}
use Rattle.media_laws.specs.Beginning.{BeginsAt}
use Rattle.media_laws.specs.NextTags.{AreNextTagsNew}
use Rattle.media_laws.proofs.EventKinds.Cases.{begins_at}
use Rattle.message_laws.specs.Askers.{KnowsAskers}
use Rattle.message_laws.specs.Numbers.{begun_of}
use Rattle.plans.specs.declared.taken.Taken.TheVariants.{Done}
use Rattle.media_laws.proofs.EventKinds.CaseMoves.{NoneTakesDatagram, NoneTakesMessage, NoneTakesRequest, NoneTakesResponse}
use Rattle.media_laws.proofs.EventKinds.EventCases.{IsNotDone, event_case}
use Rattle.transactions.specs.declared.outcome.Verdict.TheVariants as verdicts
use Rattle.media_laws.proofs.EventKinds.RequestEvents.{acked_goes, request_goes}
use Rattle.media_laws.proofs.EventKinds.ResponseEvents.{response_goes}
use Rattle.media_laws.proofs.EventKinds.CallInputs.{shown}

-- ---- a message

module _ (laws : Laws) (s : Contents) (event : Event) (begun more : List Transaction) (sent : List Sent) (t : List Datagram) (old : List Call) (k : ℕ) (tied : IsTied (office s) begun sent t old k) (later : IsAfter (office s) (office (after_step s event)) (begun ++ more)) (taken : Option Message) (ms : List Message) (askers : KnowsAskers (office (after_step s event))) (x : Effect) (is_row : row s event ≡ x) (more_is : more ≡ begun_of x.plan.changes) (are : AreMessages x.plan.sends ms) where
  abbrev before : Office
  before = office s

  abbrev behind : Office
  behind = office (after_step s event)

  abbrev pub Goes : Type 0
  Goes = GoOn (ShowsCall behind.table.slots (begun ++ more) (t ++ passed k taken ms)) behind.calls.calls t old taken ms

  calls : behind.calls.calls ≡ x.calls.standing.calls
  unfolding after_event
  calls = ap (λ (y : Effect). y.calls.standing.calls) is_row

  stays : Move offering t old taken ms old → x.calls.standing.calls ≡ s.calls.calls → Goes
  stays move same = none_goes_on laws.keep before behind begun more t old k (shown laws before behind begun more sent t old k tied later taken ms) later taken ms move (calls ∙ same)

  next_tags : AreNextTagsNew before t
  next_tags = λ salt count low high. (next_tag before begun sent t salt count tied.known.trace tied.byes low high).to

  begins : (r : Request) (id : ℕ) → (reception_of s.table (Kinds.Request r)).verdict ≡ verdicts.New id → (moment : ℕ) × BeginsAt before behind more moment r id x
  begins r id new = let b = begins_at s event r id x is_row new askers in (moment_after s event, record { verdict = b.verdict; table = b.table; begun = more_is; askers = b.askers })

  module _ (e : Setting) (from : IsSource e.source) (bytes : List ℕ) (took : x.plan.taken ≡ Done → IsTakenOf bytes taken) where
    -- of a request, and of a response, as the views have them
    abbrev AtMessage : Read → Type 0
    AtMessage m = message_of bytes ≡ Ok m → is_unreachable_message m ≡ false → (row : MessageCase before e m (begun_by before e m) (reception_of s.table m).send x)
        → (NoneTakesMessage before e m (begun_by before e m) (reception_of s.table m).send x row → Move offering t old taken ms old) → Goes

    abbrev AtRequest : Request → Read → Type 0
    AtRequest r m = (id : ℕ) → (reception_of s.table m).verdict ≡ verdicts.New id → (row : RequestRow before e r (begun_by before e m) id x) → (NoneTakesRequest before e r (begun_by before e m) id x row → Move offering t old taken ms old) → Goes

    at_request : (r : Request) → message_of bytes ≡ Ok (Kinds.Request r) → AtRequest r (Kinds.Request r)
    at_request r read id new row alone =
        request_goes laws before behind begun more sent t old k tied later taken ms e from bytes r read id x took are calls (begins r id new) next_tags row alone

    abbrev AtResponse : Response → Read → Type 0
    AtResponse r m = (id : ℕ) (y : Transaction) → IsResponseTo before r id y → (row : ResponseCase before e r (begun_by before e m) (reception_of s.table m).send id y x)
        → (NoneTakesResponse before e r (begun_by before e m) (reception_of s.table m).send id y x row → Move offering t old taken ms old) → Goes

    at_response : (r : Response) → message_of bytes ≡ Ok (Kinds.Response r) → is_unreachable_message (Kinds.Response r) ≡ false → AtResponse r (Kinds.Response r)
    at_response r read reaches id y to row alone =
        response_goes laws before behind begun more sent t old k tied later taken ms e bytes r read reaches (begun_by before e (Kinds.Response r)) id y to x took are calls (reception_of s.table (Kinds.Response r)).send refl row alone

    message_goes : (m : Read) → AtMessage m
    message_goes m read reached (cases.dropped answer why is) alone = stays (alone tt) (ap (λ (z : Effect). z.calls.standing.calls) is)
    message_goes m read reached (cases.moved why is) alone = stays (alone tt) (ap (λ (z : Effect). z.calls.standing.calls) is)
    message_goes m read reached (cases.requested r id same verdict row) alone =
        subst (AtRequest r) (sym same) (at_request r (read ∙ ap (λ (n : Read). Ok n) same)) id verdict row alone
    message_goes m read reached (cases.acknowledged r place same ack found is) alone =
        acked_goes laws before behind begun more sent t old k tied later taken ms e from bytes r (read ∙ ap (λ (n : Read). Ok n) same) 0 x took are calls (begun_by before e m) place ack is
    message_goes m read reached (cases.responded r id y same verdict to row) alone =
        subst (AtResponse r) (sym same) (at_response r (read ∙ ap (λ (n : Read). Ok n) same) (subst (λ n. is_unreachable_message n ≡ false) same reached)) id y to row alone

    pub datagram_goes : (row : DatagramCase before e bytes x) → (NoneTakesDatagram before e bytes x row → Move offering t old taken ms old) → Goes
    datagram_goes (cases.ignored answer why is) alone = stays (alone tt) (ap (λ (z : Effect). z.calls.standing.calls) is)
    datagram_goes (cases.unreadable fault parts unread can is) alone = stays (alone tt) (ap (λ (z : Effect). z.calls.standing.calls) is)
    datagram_goes (cases.unfit_branched r read is) alone = stays (alone tt) (ap (λ (z : Effect). z.calls.standing.calls) is)
    datagram_goes (cases.was_received m read branch reached row) alone = message_goes m read reached row alone
