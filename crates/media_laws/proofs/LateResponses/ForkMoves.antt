-- A 2xx that no call takes, and what is said in its dialog, moves no call of the trace: its dialog ends at once (RFC
-- 3261 section 13.2.2.4).
use Rattle.std.proofs.Common.{◌≡◌, ◌∙◌, ℕ, nat_lt, true, false, List, [], ◌∷◌, ◌++◌, is_some, Option, Some, None, Ok, refl, ap, sym, subst}
use Rattle.std.proofs.lemmas.Bool.{and_parts, or_left}
use Rattle.events.specs.declared.sent.Sent.{Sent}
use Rattle.sip_uri.specs.Address.{address_of}
use Rattle.sip_uri.specs.declared.uri.Uri.{Uri}
use Rattle.sip_message.specs.Contact.{contacts_of, is_success}
use Rattle.sip_message.specs.Read.{message_of}
use Rattle.sip_message.specs.declared.message.Message.TheVariants as Kinds
use Rattle.sip_message.specs.declared.message.Response.{Response}
use Rattle.dialogs.specs.Counting.{max_for}
use Rattle.dialogs.specs.Making.{callers_dialog, reached_at}
use Rattle.dialogs.specs.declared.method.Method.TheVariants as methods
use Rattle.transactions.specs.Contents.{reception_of}
use Rattle.transactions.specs.Slots.{at, is_answered}
use Rattle.transactions.specs.declared.change.Entry.{Entry}
use Rattle.transactions.specs.declared.outcome.Outgoing.{Outgoing}
use Rattle.transactions.specs.declared.transaction.Transaction.{Transaction}
use Rattle.call_rules.specs.Responses.{response_rule}
use Rattle.call_rules.specs.Speaking.{is_invite, is_update, may_offer}
use Rattle.call_rules.specs.declared.responses.ResponseRule.TheVariants.{Fork}
use Rattle.call_steps.specs.Rows.{fork_by, fork_row}
use Rattle.call_trace.specs.declared.call.Call.{Call}
use Rattle.call_trace.specs.declared.datagram.Datagram.{Datagram}
use Rattle.call_trace.specs.declared.datagram.Dialog.{Dialog}
use Rattle.call_trace.specs.declared.datagram.Message.{Message}
use Rattle.call_trace.specs.Events.{IsPartingTaken, acknowledged, bye_sent, dialog_sent, left}
use Rattle.call_trace.specs.Messages.{ack, bye, offering}
use Rattle.call_trace.specs.Moves.{Move, quiet}
use Rattle.trace_reading.specs.Message.{dialog_named, trace_message}
use Rattle.event_rows.specs.Rows.{is_unreachable_message}
use Rattle.plans.specs.CallRows.{occasion, with_step}
use Rattle.plans.specs.Office.{Office}
use Rattle.plans.specs.Plan.{goes}
use Rattle.plans.specs.declared.setting.Setting.{Setting}
use Rattle.message_laws.specs.CalleeDialogs.{KnowsCallees}
use Rattle.message_laws.specs.Sound.{IsTarget, IsTargetIf}
use Rattle.message_laws.proofs.QuietEvents.Describing.{BodiesDescribe}
use Rattle.message_laws.proofs.StandingCalls.Reaching.{response_may_offer, response_reached}
use Rattle.message_laws.proofs.StandingCalls.Reading.{Reading as ReadsNames, reached_target}
use Rattle.message_laws.proofs.TokenUse.Rows.{answered_client}
use Rattle.message_laws.proofs.Traces.Comings.{forked_can}
use Rattle.message_laws.specs.Messages.{AreMessages, IsTakenOf}
use Rattle.media_laws.specs.Said.{AcksIn, Leaves}
use Rattle.media_laws.proofs.Scenes.Reading.{Reading}
use Rattle.media_laws.proofs.OfferPairs.SeenWords.{request_dialog, request_of}
use Rattle.media_laws.specs.Lateness.{IsPassedOver}
use Rattle.media_laws.specs.Ties.{AreTied}
use Rattle.media_laws.proofs.LateResponses.AloneSaid.{fork_said, success_class, success_none}
use Rattle.media_laws.proofs.LateResponses.ForkSpares.{all_aside, spares_all}
use Rattle.media_laws.proofs.Copies.Lateness.{passed_late}
use Rattle.media_laws.proofs.Scenes.QuietSends.{silent_move}
use Rattle.media_laws.proofs.LateResponses.RuleReasons.{fork_reason}
use Rattle.media_laws.proofs.Copies.Taken.{passed_over}
use Rattle.media_laws.proofs.Copies.TransactionMoves.{as_taken}

-- ---- messages in a dialog

pub acks_dialog : (y : Dialog) (m : Message) → AcksIn y m → dialog_sent m ≡ y
acks_dialog y m h = request_dialog h.leg h.token h.number ack None m h.seen ∙ h.in_leg

leaves_dialog : (y : Dialog) (m : Message) → Leaves y m → dialog_sent m ≡ y
leaves_dialog y m h = request_dialog h.leg h.token h.number bye None m h.seen ∙ h.in_leg

leaves_from : (y : Dialog) (m : Message) → Leaves y m → m.from_tag ≡ y.ours
leaves_from y m h = h.seen.from_tag ∙ ap (λ (x : Dialog). x.ours) h.in_leg

-- where nothing goes before
pub none_before : (send : Option Outgoing) (sends : List Sent) (ms : List Message) → send ≡ None → AreMessages (goes send ++ sends) ms → AreMessages sends ms
none_before send sends ms none are = subst (λ o. AreMessages (goes o ++ sends) ms) none are

-- where it says that it is reached
pub leads_to : ReadsNames → (r : Response) (x : Transaction) → is_answered r.parts (Some x) ≡ true → is_unreachable_message (Kinds.Response r) ≡ false → is_success r.status ≡ true → may_offer x.parts ≡ true → (to : Uri)
    → reached_at (contacts_of r.headers) ≡ Some to → is_some (address_of to) ≡ true
leads_to names r x answers reached success offers to at_to =
    let target = reached_target names r.parts r.headers (response_may_offer r.parts x answers offers) (response_reached r reached (success_class r.status success)) in
    let is : IsTarget to = subst IsTargetIf at_to target in
    is.leads

module _ (reads : Reading) (names : ReadsNames) (describes : BodiesDescribe) (s : Office) (e : Setting) (begun : List Transaction) (sent : List Sent) (t : List Datagram) (ds : List Call) (k : AreTied s begun sent t ds)
    (callees : KnowsCallees s) (bytes : List ℕ) (r : Response) (read : message_of bytes ≡ Ok (Kinds.Response r)) (id : ℕ) (x : Transaction) (there : at s.table.slots id ≡ Some x)
    (answers : is_answered r.parts (Some x) ≡ true) where
  abbrev came : Option Message
  came = Some (trace_message bytes (Kinds.Response r))

  module _ (rule : response_rule s.calls.calls x.parts r ≡ Fork) where
    is_passed : IsPassedOver (response_rule s.calls.calls x.parts r)
    is_passed = subst IsPassedOver (sym rule) tt

    took : IsPartingTaken offering t came ds
    took = passed_over s begun sent t ds k.trace k.listed k.tokens k.waiting bytes r id x there answers is_passed

    success : is_success r.status ≡ true
    success = (and_parts (is_invite x.parts) (is_success r.status) (fork_reason s.calls.calls x.parts r rule).accepts).1

    offers : may_offer x.parts ≡ true
    offers = or_left (is_invite x.parts) (is_update x.parts) (and_parts (is_invite x.parts) (is_success r.status) (fork_reason s.calls.calls x.parts r rule).accepts).0

    pair_move : (to : Uri) (a b : Message) → AcksIn (dialog_named (callers_dialog x.parts r to).id) a → Leaves (dialog_named (callers_dialog x.parts r to).id) b → Move offering t ds came (a ∷ b ∷ []) ds
    pair_move to a b acks leaves =
        let y = dialog_named (callers_dialog x.parts r to).id in
        let why = fork_reason s.calls.calls x.parts r rule in
        let aside = all_aside s.calls.calls x.parts r k.tokens.calls.apart why.forked (passed_late s.calls.calls x.parts r offers is_passed) in
        let ends = request_of bye b leaves.seen.kind leaves.seen.method refl in
        quiet took (
          acknowledged (request_of ack a acks.seen.kind acks.seen.method refl) (left 1 b refl ends (leaves_dialog y b leaves ∙ sym (acks_dialog y a acks))),
          (bye_sent ends (spares_all s.table.slots begun t s.tokens x.parts r b (leaves_dialog y b leaves) (leaves_from y b leaves) s.calls.calls ds k.tokens.calls.tags callees.calls aside k.listed), tt),
        )
        refl

    said_move : is_unreachable_message (Kinds.Response r) ≡ false → (ms : List Message) (to : Option Uri) → reached_at (contacts_of r.headers) ≡ to
        → AreMessages (fork_by s.calls (occasion s e) x.parts r to).dressed.sends ms → Move offering t ds came ms ds
    said_move reached ms None at_to are = silent_move t ds came ms took are
    said_move reached ms (Some to) at_to are =
        let why = fork_reason s.calls.calls x.parts r rule in
        let leg = callers_dialog x.parts r to in
        let numbered : nat_lt x.parts.cseq.number (max_for methods.Bye) ≡ true = subst (λ n. nat_lt n (max_for methods.Bye) ≡ true) (sym why.first) refl in
        let said = fork_said reads describes s e leg k.scenes (forked_can names s bytes r id x to k.scenes read there (answered_client r.parts x answers) at_to) (leads_to names r x answers reached success offers to at_to) numbered ms are in
        subst (λ l. Move offering t ds came l ds) (sym said.whole) (pair_move to said.ack said.bye said.acks said.leaves)

    pub fork_move : is_unreachable_message (Kinds.Response r) ≡ false → (taken : Option Message) (changes : List Entry) (ms : List Message) → IsTakenOf bytes taken
        → AreMessages (with_step s.acks changes (reception_of s.table (Kinds.Response r)).send None (fork_row s.calls (occasion s e) x.parts r)).plan.sends ms → Move offering t ds taken ms ds
    unfolding fork_row
    fork_move reached taken changes ms took are =
        as_taken t ds ms bytes (Kinds.Response r) taken read took
        (said_move reached ms (reached_at (contacts_of r.headers)) refl (none_before (reception_of s.table (Kinds.Response r)).send _ ms (success_none s.table r success) are))
