-- Each event that no call takes is a quiet move of the trace.
use Rattle.std.proofs.Common.{◌≡◌, ◌∙◌, ℕ, false, List, [], Option, None, Result, Ok, Err, refl, ap, sym, subst}
use Rattle.events.specs.declared.event.What.{What}
use Rattle.events.specs.declared.event.What.TheVariants as whats
use Rattle.events.specs.declared.sent.Sent.{Sent}
use Rattle.sip_uri.specs.declared.uri.Addr.{Addr}
use Rattle.sip_message.specs.Read.{message_of}
use Rattle.sip_message.specs.declared.message.Message.{Message as Read}
use Rattle.sip_message.specs.declared.message.Message.TheVariants as Kinds
use Rattle.sip_message.specs.declared.message.Request.{Request}
use Rattle.sip_message.specs.declared.message.Response.{Response}
use Rattle.registrar.specs.Registrar.{answer_of, rules_of}
use Rattle.registrar.specs.declared.binding.Binding.{Binding}
use Rattle.registrar.specs.declared.refusal.Refusal.{Refusal}
use Rattle.responses.specs.Registering.{register_of}
use Rattle.transactions.specs.Contents.{reception_of}
use Rattle.transactions.specs.declared.change.Entry.{Entry}
use Rattle.transactions.specs.declared.outcome.Outgoing.{Outgoing}
use Rattle.transactions.specs.declared.transaction.Transaction.{Transaction}
use Rattle.call_trace.specs.declared.call.Call.{Call}
use Rattle.call_trace.specs.declared.datagram.Datagram.{Datagram}
use Rattle.call_trace.specs.declared.datagram.Message.{Message}
use Rattle.call_trace.specs.Messages.{offering}
use Rattle.call_trace.specs.Moves.{Move}
use Rattle.event_rows.specs.Rows.{is_unreachable_message, no_source, setting}
use Rattle.call_steps.specs.Rows.{fork_row, late_row}
use Rattle.plans.specs.CallRows.{occasion, of_plan, with_step}
use Rattle.plans.specs.Effect.{Effect}
use Rattle.plans.specs.Office.{Office}
use Rattle.plans.specs.Plan.{moves}
use Rattle.plans.specs.Replies.{registers, registers_by, reply_row}
use Rattle.plans.specs.declared.reason.Reason.TheVariants as reasons
use Rattle.plans.specs.declared.rule.Reply.{Reply}
use Rattle.plans.specs.declared.rule.Reply.TheVariants as replies
use Rattle.plans.specs.declared.setting.Setting.{Setting}
use Rattle.plans.specs.declared.taken.Taken.{Taken}
use Rattle.plans.specs.declared.taken.Taken.TheVariants as takens
use Rattle.message_laws.specs.Addresses.{IsSource}
use Rattle.message_laws.specs.CalleeDialogs.{KnowsCallees}
use Rattle.message_laws.specs.Datagrams.{ComesFromSource, IsNoDatagram}
use Rattle.message_laws.proofs.QuietEvents.Describing.{BodiesDescribe}
use Rattle.message_laws.proofs.Messages.MessageViews.{IsResponseTo, begun_by}
use Rattle.message_laws.proofs.Messages.RequestViews.{RequestRow}
use Rattle.message_laws.proofs.Messages.RequestViews as requests
use Rattle.message_laws.proofs.StandingCalls.Reading.{Reading as ReadsNames}
use Rattle.message_laws.proofs.Messages.Views.{DueRow}
use Rattle.message_laws.proofs.Messages.Views as views
use Rattle.message_laws.specs.Messages.{AreMessages, IsTakenOf}
use Rattle.message_laws.specs.Traces.{IsTaken}
use Rattle.media_laws.proofs.Scenes.Reading.{Reading}
use Rattle.media_laws.specs.Late.{KnowsLate}
use Rattle.media_laws.specs.Lateness.{IsPassedOver}
use Rattle.media_laws.specs.Ties.{AreTied}
use Rattle.media_laws.specs.Verdicts.{IsTransactions}
use Rattle.media_laws.proofs.LateResponses.AckMoves.{ack_move}
use Rattle.media_laws.proofs.EventKinds.EventCases.{DatagramCase, EventCase, IsNotDone, MessageCase, ResponseCase}
use Rattle.media_laws.proofs.EventKinds.EventCases as cases
use Rattle.media_laws.proofs.Copies.EventMoves as moving
use Rattle.media_laws.proofs.LateResponses.ForkMoves.{fork_move}
use Rattle.media_laws.proofs.Scenes.RequestMoves.{refreshed_move, refused_move, replied_move, unfit_branched_move, unreadable_move}
use Rattle.media_laws.proofs.Copies.TransactionMoves.{nothing_move}

-- ---- no call takes it

abbrev pub NoneTakesRequest : (s : Office) (e : Setting) (r : Request) (begun : List Entry) (id : ℕ) (x : Effect) → RequestRow s e r begun id x → Type 0
NoneTakesRequest s e r begun id x (requests.replied reply rule is) = Unit {0}
NoneTakesRequest s e r begun id x (requests.unfit reason is) = Unit {0}
NoneTakesRequest s e r begun id x (requests.asks_callee to offer why is) = ⊥
NoneTakesRequest s e r begun id x (requests.cancelled other place named found is) = ⊥
NoneTakesRequest s e r begun id x (requests.left place end rule is) = ⊥
NoneTakesRequest s e r begun id x (requests.counted_alone place end reason why is) = Unit {0}
NoneTakesRequest s e r begun id x (requests.passed_on place end c offer rule why is) = ⊥
NoneTakesRequest s e r begun id x (requests.refreshed place end why is) = Unit {0}

abbrev pub NoneTakesResponse : (s : Office) (e : Setting) (r : Response) (begun : List Entry) (send : Option Outgoing) (id : ℕ) (asked : Transaction) (x : Effect) → ResponseCase s e r begun send id asked x → Type 0
NoneTakesResponse s e r begun send id asked x (cases.silent rule is) = Unit {0}
NoneTakesResponse s e r begun send id asked x (cases.provisional place status c there waits class same is) = ⊥
NoneTakesResponse s e r begun send id asked x (cases.answered place c there waits class is) = ⊥
NoneTakesResponse s e r begun send id asked x (cases.again place rule is) = Unit {0}
NoneTakesResponse s e r begun send id asked x (cases.fork rule is) = Unit {0}
NoneTakesResponse s e r begun send id asked x (cases.ack_alone rule is) = Unit {0}
NoneTakesResponse s e r begun send id asked x (cases.refused place status c there waits class same is) = ⊥

abbrev pub NoneTakesMessage : (s : Office) (e : Setting) (m : Read) (begun : List Entry) (send : Option Outgoing) (x : Effect) → MessageCase s e m begun send x → Type 0
NoneTakesMessage s e m begun send x (cases.dropped taken why is) = Unit {0}
NoneTakesMessage s e m begun send x (cases.moved why is) = Unit {0}
NoneTakesMessage s e m begun send x (cases.requested r id same verdict row) = NoneTakesRequest s e r begun id x row
NoneTakesMessage s e m begun send x (cases.acknowledged r place same ack found is) = ⊥
NoneTakesMessage s e m begun send x (cases.responded r id t same verdict to row) = NoneTakesResponse s e r begun send id t x row

abbrev pub NoneTakesDatagram : (s : Office) (e : Setting) (bytes : List ℕ) (x : Effect) → DatagramCase s e bytes x → Type 0
NoneTakesDatagram s e bytes x (cases.ignored taken why is) = Unit {0}
NoneTakesDatagram s e bytes x (cases.unreadable fault parts unread can is) = Unit {0}
NoneTakesDatagram s e bytes x (cases.unfit_branched r read is) = Unit {0}
NoneTakesDatagram s e bytes x (cases.was_received m read branch reached row) = NoneTakesMessage s e m (begun_by s e m) (reception_of s.table m).send x row

abbrev pub NoneTakesDue : (s : Office) (e : Setting) (x : Effect) → DueRow s e x → Type 0
NoneTakesDue s e x (views.idle is) = Unit {0}
NoneTakesDue s e x (views.listed users is) = Unit {0}
NoneTakesDue s e x (views.sent_again timer out fired is) = Unit {0}
NoneTakesDue s e x (views.fired_alone timer fired is) = Unit {0}
NoneTakesDue s e x (views.timed timer t place fired times there found is) = ⊥
NoneTakesDue s e x (views.ended timer fired is) = Unit {0}
NoneTakesDue s e x (views.stopped timer is) = Unit {0}
NoneTakesDue s e x (views.call_fired timer place found is) = ⊥

abbrev pub NoneTakes : (s : Office) (now salt : ℕ) (what : What) (x : Effect) → EventCase s now salt what x → Type 0
NoneTakes s now salt what x (cases.came source bytes is row) = NoneTakesDatagram s (setting now salt source) bytes x row
NoneTakes s now salt what x (cases.due is row) = NoneTakesDue s (setting now salt no_source) x row

-- ---- what was taken

pub nothing_taken : (what : What) (answer : Taken) (taken : Option Message) → IsNotDone answer → IsTaken what answer taken → taken ≡ None
nothing_taken (whats.Datagram source bytes) takens.Done taken not_done h = absurd not_done
nothing_taken (whats.Datagram source bytes) (takens.Dropped why) taken not_done h = h
nothing_taken (whats.Datagram source bytes) takens.Shed taken not_done h = h
nothing_taken (whats.Datagram source bytes) takens.Idle taken not_done h = h
nothing_taken whats.Due answer taken not_done h = h
nothing_taken (whats.Silent number) answer taken not_done h = h
nothing_taken (whats.Users users) answer taken not_done h = h

-- nothing is taken with what is not a datagram
pub none_with : (what : What) (answer : Taken) (taken : Option Message) → IsNoDatagram what → IsTaken what answer taken → taken ≡ None
none_with (whats.Datagram source bytes) answer taken alone h = absurd alone
none_with whats.Due answer taken alone h = h
none_with (whats.Silent number) answer taken alone h = h
none_with (whats.Users users) answer taken alone h = h

registers_done : (s : Office) (e : Setting) (r : Request) (begun : List Entry) (id : ℕ) (user : Option (List ℕ)) (answer : Result (List Binding) Refusal) → (registers_by s e r begun id user answer).taken ≡ takens.Done
registers_done s e r begun id user (Ok bindings) = refl
registers_done s e r begun id user (Err refusal) = refl

reply_done : (s : Office) (e : Setting) (r : Request) (begun : List Entry) (id : ℕ) (reply : Reply) → (reply_row s e r begun id reply).taken ≡ takens.Done
unfolding reply_row registers
reply_done s e r begun id (replies.CancelOf other) = refl
reply_done s e r begun id (replies.Refusal reason) = refl
reply_done s e r begun id replies.MethodsListed = refl
reply_done s e r begun id replies.Registration = registers_done s e r begun id (register_of (rules_of s.registrar) r).user (answer_of s.registrar (register_of (rules_of s.registrar) r) e.now)

-- ---- the moves

module _ (reads : Reading) (names : ReadsNames) (describes : BodiesDescribe) (s : Office) (begun : List Transaction) (sent : List Sent) (t : List Datagram) (ds : List Call) (k : AreTied s begun sent t ds)
    (callees : KnowsCallees s) (late : KnowsLate s begun t ds) (taken : Option Message) (ms : List Message) where
  -- what an effect of this event results in for the trace
  abbrev IsQuiet : What → Effect → Type 0
  IsQuiet what x = IsTaken what x.plan.taken taken → AreMessages x.plan.sends ms → Move offering t ds taken ms ds

  none_move : (what : What) (answer : Taken) → IsNotDone answer → IsTaken what answer taken → AreMessages [] ms → Move offering t ds taken ms ds
  none_move what answer not_done took are = subst (λ o. Move offering t ds o ms ds) (sym (nothing_taken what answer taken not_done took)) (nothing_move t ds ms are)

  -- a reply of the rules was taken up
  was_done : (source : Addr) (bytes : List ℕ) (e : Setting) (r : Request) (changes : List Entry) (id : ℕ) (reply : Reply) → IsTaken (whats.Datagram source bytes) (reply_row s e r changes id reply).taken taken → IsTakenOf bytes taken
  was_done source bytes e r changes id reply took = subst (λ answer. IsTaken (whats.Datagram source bytes) answer taken) (reply_done s e r changes id reply) took

  module _ (source : Addr) (bytes : List ℕ) (from : IsSource source) (e : Setting) (at_source : e.source ≡ source) where
    from_e : IsSource e.source
    from_e = subst IsSource (sym at_source) from

    request_move : (r : Request) → message_of bytes ≡ Ok (Kinds.Request r) → (changes : List Entry) (id : ℕ) (x : Effect) (row : RequestRow s e r changes id x) → NoneTakesRequest s e r changes id x row
        → IsQuiet (whats.Datagram source bytes) x
    request_move r read changes id x (requests.replied reply rule is) none =
        subst (IsQuiet (whats.Datagram source bytes)) (sym is)
        (λ took are. replied_move reads t ds taken bytes ms (was_done source bytes e r changes id reply took) s e from_e r read k.scenes changes id names reply rule are)
    request_move r read changes id x (requests.unfit reason is) none =
        subst (IsQuiet (whats.Datagram source bytes)) (sym is) (λ took are. refused_move reads t ds taken bytes ms took s e from_e r read k.scenes changes id reason are)
    request_move r read changes id x (requests.asks_callee to offer why is) none = absurd none
    request_move r read changes id x (requests.cancelled other place named found is) none = absurd none
    request_move r read changes id x (requests.left place end rule is) none = absurd none
    request_move r read changes id x (requests.counted_alone place end reason why is) none =
        subst (IsQuiet (whats.Datagram source bytes)) (sym is)
        (λ took are. refused_move reads t ds taken bytes ms took s e from_e r read k.scenes changes id reason are)
    request_move r read changes id x (requests.passed_on place end c offer rule why is) none = absurd none
    request_move r read changes id x (requests.refreshed place end why is) none =
        subst (IsQuiet (whats.Datagram source bytes)) (sym is) (λ took are. refreshed_move reads t ds taken bytes ms took s e from_e r read k.scenes changes id place end why.rule are)

    response_move : (r : Response) → message_of bytes ≡ Ok (Kinds.Response r) → is_unreachable_message (Kinds.Response r) ≡ false → (changes : List Entry) (send : Option Outgoing) → send ≡ (reception_of s.table (Kinds.Response r)).send → (id : ℕ) (y : Transaction)
        → IsResponseTo s r id y → (x : Effect) (row : ResponseCase s e r changes send id y x) → NoneTakesResponse s e r changes send id y x row → IsQuiet (whats.Datagram source bytes) x
    response_move r read reached changes send goes id y to x (cases.silent rule is) none =
        subst (IsQuiet (whats.Datagram source bytes)) (sym is)
        (λ took are. moving.silent_is_quiet reads names s begun sent t ds k bytes r taken id y changes ms read took to.there to.answers (subst IsPassedOver (sym rule) tt)
        (subst (λ o. AreMessages (moves changes o).sends ms) goes are))
    response_move r read reached changes send goes id y to x (cases.provisional place status c there waits class same is) none = absurd none
    response_move r read reached changes send goes id y to x (cases.answered place c there waits class is) none = absurd none
    response_move r read reached changes send goes id y to x (cases.again place rule is) none =
        subst (IsQuiet (whats.Datagram source bytes)) (sym is)
        (λ took are. moving.again_is_quiet reads names s begun sent t ds k bytes r taken id y changes ms read took to.there to.answers (subst IsPassedOver (sym rule) tt) are)
    response_move r read reached changes send goes id y to x (cases.fork rule is) none =
        subst (IsQuiet (whats.Datagram source bytes)) (sym is)
        (λ took are. fork_move reads names describes s e begun sent t ds k callees bytes r read id y to.there to.answers rule reached taken changes ms took
        (subst (λ o. AreMessages (with_step s.acks changes o None (fork_row s.calls (occasion s e) y.parts r)).plan.sends ms) goes are))
    response_move r read reached changes send goes id y to x (cases.ack_alone rule is) none =
        subst (IsQuiet (whats.Datagram source bytes)) (sym is)
        (λ took are. ack_move reads names describes s e begun sent t ds k late bytes r read id y to.there to.answers rule reached taken changes ms took
        (subst (λ o. AreMessages (with_step s.acks changes o None (late_row s.calls (occasion s e) y.parts r)).plan.sends ms) goes are))
    response_move r read reached changes send goes id y to x (cases.refused place status c there waits class same is) none = absurd none

    -- what the transactions do by themselves
    moved_move : (m : Read) → message_of bytes ≡ Ok m → IsTransactions (reception_of s.table m).verdict → IsQuiet (whats.Datagram source bytes) (of_plan s (moves (begun_by s e m) (reception_of s.table m).send))
    moved_move (Kinds.Request r) read why = λ took are. moving.repeat_is_quiet reads names s begun sent t ds k bytes r taken (begun_by s e (Kinds.Request r)) ms read took are
    moved_move (Kinds.Response r) read why = λ took are. moving.swallowed_is_quiet reads names s begun sent t ds k bytes r taken (begun_by s e (Kinds.Response r)) ms read took why are

    message_move : (m : Read) → message_of bytes ≡ Ok m → is_unreachable_message m ≡ false → (x : Effect) (row : MessageCase s e m (begun_by s e m) (reception_of s.table m).send x)
        → NoneTakesMessage s e m (begun_by s e m) (reception_of s.table m).send x row → IsQuiet (whats.Datagram source bytes) x
    message_move m read reached x (cases.dropped answer why is) none = subst (IsQuiet (whats.Datagram source bytes)) (sym is) (λ took are. none_move (whats.Datagram source bytes) answer why took are)
    message_move m read reached x (cases.moved why is) none = subst (IsQuiet (whats.Datagram source bytes)) (sym is) (moved_move m read why)
    message_move m read reached x (cases.requested r id same verdict row) none = request_move r (read ∙ ap (λ (y : Read). Ok y) same) (begun_by s e m) id x row none
    message_move m read reached x (cases.acknowledged r place same ack found is) none = absurd none
    message_move m read reached x (cases.responded r id y same verdict to row) none =
        response_move r (read ∙ ap (λ (n : Read). Ok n) same) (subst (λ n. is_unreachable_message n ≡ false) same reached) (begun_by s e m) (reception_of s.table m).send (ap (λ n. (reception_of s.table n).send) same) id y to x row none

    datagram_move : (x : Effect) (row : DatagramCase s e bytes x) → NoneTakesDatagram s e bytes x row → IsQuiet (whats.Datagram source bytes) x
    datagram_move x (cases.ignored answer why is) none = subst (IsQuiet (whats.Datagram source bytes)) (sym is) (λ took are. none_move (whats.Datagram source bytes) answer why took are)
    datagram_move x (cases.unreadable fault parts unread can is) none =
        subst (IsQuiet (whats.Datagram source bytes)) (sym is) (λ took are. unreadable_move reads t ds taken bytes ms took s e from_e parts (reasons.Unread fault) can are)
    datagram_move x (cases.unfit_branched r read is) none =
        subst (IsQuiet (whats.Datagram source bytes)) (sym is) (λ took are. unfit_branched_move reads t ds taken bytes ms took s e from_e r read are)
    datagram_move x (cases.was_received m read branch reached row) none = message_move m read reached x row none

  -- ---- what is due

  silent_due : AreMessages [] ms → taken ≡ None → Move offering t ds taken ms ds
  silent_due are none = subst (λ o. Move offering t ds o ms ds) (sym none) (nothing_move t ds ms are)

  due_move : (e : Setting) (x : Effect) (row : DueRow s e x) → NoneTakesDue s e x row → IsQuiet whats.Due x
  due_move e x (views.idle is) none = subst (IsQuiet whats.Due) (sym is) (λ took are. silent_due are took)
  due_move e x (views.listed users is) none = subst (IsQuiet whats.Due) (sym is) (λ took are. silent_due are took)
  due_move e x (views.sent_again timer out fired is) none =
      subst (IsQuiet whats.Due) (sym is) (λ took are. subst (λ o. Move offering t ds o ms ds) (sym took) (moving.timer_is_quiet reads names s begun sent t ds k timer out ms fired are))
  due_move e x (views.fired_alone timer fired is) none = subst (IsQuiet whats.Due) (sym is) (λ took are. silent_due are took)
  due_move e x (views.timed timer y place fired times there found is) none = absurd none
  due_move e x (views.ended timer fired is) none = subst (IsQuiet whats.Due) (sym is) (λ took are. silent_due are took)
  due_move e x (views.stopped timer is) none = subst (IsQuiet whats.Due) (sym is) (λ took are. silent_due are took)
  due_move e x (views.call_fired timer place found is) none = absurd none

  -- ---- an event

  pub event_move : (now salt : ℕ) (what : What) → ComesFromSource what → (x : Effect) (row : EventCase s now salt what x) → NoneTakes s now salt what x row → IsTaken what x.plan.taken taken → AreMessages x.plan.sends ms
      → Move offering t ds taken ms ds
  event_move now salt what from x (cases.came source bytes is row) none =
      subst (λ w. IsQuiet w x) (sym is) (datagram_move source bytes (subst ComesFromSource is from) (setting now salt source) refl x row none)
  event_move now salt what from x (cases.due alone row) none = λ took are. due_move (setting now salt no_source) x row none (none_with what x.plan.taken taken alone took) are
