-- What each event results in: a request that waits is the open offer of the call that its tag names, or of none,
-- numbers rise in each leg, and what is open carries the offer that its call keeps.
use Rattle.std.proofs.Common.{◌≡◌, ◌∙◌, ◌<◌, ◌^◌, ℕ, Bool, true, false, cond, List, [], ◌∷◌, codes, Option, Some, None, position, refl, sym, subst, inl, inr}
use Rattle.std.specs.Prelude.{slice_get}
use Rattle.std.proofs.lemmas.Bool.{false≢true}
use Rattle.std.proofs.lemmas.Option.{same_Some}
use Rattle.sip_uri.specs.declared.uri.Addr.{Addr}
use Rattle.sip_message.specs.declared.message.Message.{Message}
use Rattle.sip_message.specs.declared.message.Message.TheVariants as Kinds
use Rattle.sip_message.specs.declared.message.Parts.{Parts}
use Rattle.sip_message.specs.declared.message.Request.{Request}
use Rattle.sip_message.specs.declared.message.Response.{Response}
use Rattle.sip_message.specs.declared.words.Class.{Class}
use Rattle.sip_message.specs.declared.words.Class.TheVariants.{Success, Failure}
use Rattle.sip_message.specs.Words.{class_of, is_method, tag_text, tag_value}
use Rattle.transaction_machines.specs.declared.input.Input.{Input}
use Rattle.transaction_machines.specs.declared.input.Input.TheVariants as machine_inputs
use Rattle.transaction_machines.specs.declared.step.Starts.TheVariants.{NoTimer}
use Rattle.transaction_machines.specs.Machines.{is_server, row_of}
use Rattle.transactions.specs.declared.change.Entry.{Entry}
use Rattle.transactions.specs.declared.change.Entry.TheVariants.{Leaves, Opens, Tells}
use Rattle.transactions.specs.declared.outcome.Fired.TheVariants as fires
use Rattle.transactions.specs.declared.outcome.Outgoing.{Outgoing}
use Rattle.transactions.specs.declared.transaction.TimerId.{TimerId}
use Rattle.transactions.specs.declared.transaction.Transaction.{Transaction}
use Rattle.transactions.specs.Changes.{change_of, fire_of, request_change, response_change}
use Rattle.transactions.specs.Contents.{ack_at, fired_of, response_input}
use Rattle.transactions.specs.Slots.{at, is_answered, is_asked}
use Rattle.transactions.specs.Transactions.{served}
use Rattle.call_core.specs.declared.action.CallTimer.{CallTimer}
use Rattle.call_core.specs.declared.action.CallTimer.TheVariants as timers
use Rattle.call_core.specs.declared.input.Input.{Input as CallInput}
use Rattle.call_core.specs.declared.input.Input.TheVariants as inputs
use Rattle.calls.specs.declared.change.LegDialog.{LegDialog}
use Rattle.calls.specs.declared.standing_call.StandingCall.{StandingCall}
use Rattle.call_rules.specs.Content.{described}
use Rattle.call_steps.specs.Effects as steps
use Rattle.call_steps.specs.Rows.{answers_leg, takes_row}
use Rattle.events.specs.declared.event.What.{What}
use Rattle.plans.specs.Office.{Office}
use Rattle.plans.specs.declared.setting.Setting.{Setting}
use Rattle.plans.specs.CallRows.{acks_again, occasion, okay_plan, takes, takes_request, timer_input, times_responses, with_step, without_call_timer}
use Rattle.plans.specs.Effect.{Effect}
use Rattle.plans.specs.Plan.{moves, nothing}
use Rattle.plans.specs.Replies.{refuses_for, reply_row}
use Rattle.event_rows.specs.Rows.{no_source, setting, what_row}
use Rattle.message_laws.specs.Knowing.{KnowsTokens}
use Rattle.message_laws.specs.Waiting.{KnowsWaiting}
use Rattle.message_laws.proofs.AwaitedOffers.Awaiting.{LegKeeps, fits_at, leg_kept}
use Rattle.message_laws.proofs.TokenUse.Calls.{FitsLeg}
use Rattle.message_laws.proofs.AwaitedOffers.Coming.{later_self}
use Rattle.message_laws.proofs.AwaitedOffers.InOrder.{behind_none}
use Rattle.message_laws.proofs.AwaitedOffers.Lines.{failure_ends, success_ends, waits_after}
use Rattle.message_laws.proofs.AwaitedOffers.Offering.{opens_split}
use Rattle.message_laws.proofs.AwaitedOffers.Once.{NoneOwn, none_before, own_offers}
use Rattle.message_laws.proofs.Messages.Replying.{okay_reply, refuses_reply, row_reply}
use Rattle.message_laws.proofs.Messages.RequestViews.{RequestRow, asks_callee, cancelled, counted_alone, left, passed_on, refreshed, replied, unfit}
use Rattle.message_laws.proofs.Messages.ResponseViews.{IsAsked, ResponseRow, ack_alone, again, answered, fork, provisional, refused, silent}
use Rattle.message_laws.proofs.Messages.MessageViews.{IsResponseTo, MessageRow, acknowledged, begun_by, dropped, moved, requested, responded}
use Rattle.message_laws.proofs.Messages.Views.{DatagramRow, DueRow, WhatRow, call_fired, came, due, ended, fired_alone, idle, listed, ignored, sent_again, stopped, timed, unfit_branched, unreadable, was_received, what_view}
use Rattle.message_laws.proofs.TokenUse.Rows.{answered_client, served_by}
use Rattle.message_laws.proofs.TokenUse.Slots.{own_at}
use Rattle.message_laws.proofs.TokenUse.TaggedSteps.{answers_fits, counts_fits, refreshes_fits}
use Rattle.message_laws.proofs.AwaitedOffers.Tables.{IsNoOfferInput, consumes_input}
use Rattle.message_laws.proofs.AwaitedOffers.WaitEffects.{Waits, answers_grows, fork_waits, late_waits, plan_waits, puts_waits, reply_none, step_waits}
use Rattle.message_laws.proofs.AwaitedOffers.WaitFirst.{BeginsOffer, first_begins}
use Rattle.message_laws.proofs.AwaitedOffers.WaitLost.{IsFinal, WaitsAt, final_lost, timed_client, timed_ends, timeout_waits}
use Rattle.message_laws.proofs.AwaitedOffers.WaitOffers.{offers_begins}
use Rattle.message_laws.proofs.AwaitedOffers.WaitPassed.{passes_settled}
use Rattle.message_laws.proofs.AwaitedOffers.WaitSteps.{counts_keeps, refreshes_keeps}
use Rattle.message_laws.proofs.AwaitedOffers.WaitTakes.{LegFits, takes_waits}

-- ---- a call takes an input after which it waits on

pub calm_leg : (made : ℕ) (leg : Option LegDialog) (c : StandingCall) → FitsLeg made c leg → LegKeeps c.call leg → LegFits false made leg c
calm_leg made leg c tags keeps = record { tags = tags; grows = leg_kept c.call leg keeps; keeps = λ e. keeps }

pub no_leg : (made : ℕ) (c : StandingCall) (final : Bool) → LegFits final made None c
no_leg made c final = record { tags = tt; grows = tt; keeps = λ e. tt }

calm_takes : (s : Office) → KnowsWaiting s → (e : Setting) (begun : List Entry) (send : Option Outgoing) (id : Option ℕ) (place : ℕ) (input : CallInput) → NoneOwn begun → IsNoOfferInput input
    → consumes_input input ≡ false → Waits s (takes s e begun send id place input None)
calm_takes s k e begun send id place input none n calm_input =
    step_waits s k begun send id (consumes_input input) place _ none (takes_waits s.calls s.table (occasion s e) place 0 input None None n (λ d there. no_leg 0 d (consumes_input input)))
    (λ final. absurd (false≢true (sym calm_input ∙ final)))

asked_takes : (s : Office) → KnowsWaiting s → (e : Setting) (r : Request) (begun : List Entry) (id place made : ℕ) (input : CallInput) (leg : Option LegDialog) (tag : List ℕ) → NoneOwn begun
    → IsNoOfferInput input → consumes_input input ≡ false → ((d : StandingCall) → slice_get s.calls.calls place ≡ Some d → LegFits (consumes_input input) made leg d)
    → Waits s (takes_request s e r begun id place input leg tag)
asked_takes s k e r begun id place made input leg tag none n calm_input fits =
    step_waits s k begun None None (consumes_input input) place _ none (takes_waits s.calls s.table (occasion s e) place made input leg _ n fits) (λ final. absurd (false≢true (sym calm_input ∙ final)))

-- ---- one that ends the wait

final_takes : (s : Office) (k : KnowsWaiting s) (e : Setting) (send : Option Outgoing) (id : Option ℕ) (place made first : ℕ) (asked : Transaction) (c : StandingCall) (told : Input) (fresh : Option (List ℕ))
    (input : CallInput) (leg : Option LegDialog) → IsFinal s first asked told place c → IsNoOfferInput input → ((d : StandingCall) → slice_get s.calls.calls place ≡ Some d → LegFits (consumes_input input) made leg d)
    → Waits s (takes s e (Tells first told fresh ∷ []) send id place input leg)
final_takes s k e send id place made first asked c told fresh input leg final n fits =
    let w = takes_waits s.calls s.table (occasion s e) place made input leg None n fits in
    step_waits s k (Tells first told fresh ∷ []) send id (consumes_input input) place _ (λ t opens offers. opens) w
    (λ is now at_id t u there after later offers. final_lost s k place first asked c told fresh (takes_row s.calls s.table (occasion s e) place input leg None).dressed.changes final w.none now at_id t u there after later offers)

-- ---- a step that may begin an offer

offer_step : (s : Office) → KnowsTokens s → KnowsWaiting s → (begun : List Entry) (x : steps.Effect) → NoneOwn begun → BeginsOffer s.tokens s.calls.calls x
    → Waits s (with_step s.acks begun None None x)
offer_step s tokens k begun x none b = record {
  stayed = λ now id t u there after later offers. b.stayed t u later (own_at s.tokens s.table.slots id t tokens.slots there offers.client).tag (k.awaited id t there offers);
  began = λ t opens offers. elim (opens_split t begun x.dressed.changes opens) [ inl h ↦ absurd (none t h offers.client) | inr h ↦ b.began t h offers ];
  one = none_before begun x.dressed.changes (own_offers begun none) b.one;
  counted = λ t over tag each. b.stayed t t (later_self t) tag each;
  above = λ t opens offers v tag each same. elim (opens_split t begun x.dressed.changes opens) [ inl h ↦ absurd (none t h offers.client) | inr h ↦ b.above t h offers v tag each same ];
  byes = λ knows t opens place c there bye. elim (opens_split t begun x.dressed.changes opens) [ inl h ↦ absurd (none t h bye.bye.client) | inr h ↦ b.byes knows t h place c there bye ];
  keeps = b.keeps;
  carries = λ t opens offers. elim (opens_split t begun x.dressed.changes opens) [ inl h ↦ absurd (none t h offers.client) | inr h ↦ b.carries t h offers ];
  sent = behind_none begun x.dressed.changes [] x.dressed.sends none b.sent;
}

-- ---- the rows

request_waits : (s : Office) → KnowsTokens s → KnowsWaiting s → s.tokens < 2 ^ 63 → (e : Setting) (r : Request) (begun : List Entry) (id : ℕ) (x : Effect) → NoneOwn begun → RequestRow s e r begun id x
    → Waits s x
request_waits s tokens k few e r begun id x none (replied reply why is) = subst (Waits s) (sym is) (plan_waits s k (reply_row s e r begun id reply) (reply_none begun id _ (row_reply s e r begun id reply) none))
request_waits s tokens k few e r begun id x none (unfit reason is) =
    subst (Waits s) (sym is) (plan_waits s k (refuses_for s e r begun id reason) (reply_none begun id _ (refuses_reply s e r begun id reason) none))
request_waits s tokens k few e r begun id x none (asks_callee to offer why is) =
    subst (Waits s) (sym is) (offer_step s tokens k begun _ none (first_begins s.calls (occasion s e) r id e.source to offer (no_tag_text r.parts why.no_tag) few tokens.calls))
  where
    no_tag_text : (parts : Parts) → tag_value parts.to.params ≡ None → tag_text parts.to.params ≡ []
    no_tag_text parts without = rw without refl
request_waits s tokens k few e r begun id x none (cancelled other place named_is found is) =
    subst (Waits s) (sym is) (asked_takes s k e r begun id place 0 inputs.Cancel None _ none tt refl (λ d there. no_leg 0 d false))
request_waits s tokens k few e r begun id x none (left place end rule_is is) =
    subst (Waits s) (sym is) (
    asked_takes s k e r begun id place s.tokens (inputs.Bye end) _ _ none tt refl
    (λ d there. calm_leg s.tokens _ d (counts_fits s.tokens s.calls.calls place end r.parts.cseq.number d tokens.calls there) (counts_keeps s.calls.calls place end r.parts.cseq.number d there))
    )
request_waits s tokens k few e r begun id x none (counted_alone place end reason why is) =
    subst (Waits s) (sym is) (
    puts_waits s k s.tokens place _ (refuses_for s e r begun id reason) (reply_none begun id _ (refuses_reply s e r begun id reason) none)
    (λ d there. (counts_fits s.tokens s.calls.calls place end r.parts.cseq.number d tokens.calls there, counts_keeps s.calls.calls place end r.parts.cseq.number d there))
    )
request_waits s tokens k few e r begun id x none (passed_on place end c offer rule_is why is) =
    subst (Waits s) (sym is) (
    offer_step s tokens k begun _ none
    (offers_begins s.calls s.table (occasion s e) place end _ offer r id e.source c why.there (passes_settled r end c.call why.passes) tokens.calls)
    )
request_waits s tokens k few e r begun id x none (refreshed place end rule_is is) =
    subst (Waits s) (sym is) (
    puts_waits s k s.tokens place _ (okay_plan s e r begun id) (reply_none begun id _ (okay_reply s e r begun id) none)
    (λ d there. (refreshes_fits s.tokens s.calls.calls place end r d tokens.calls there, refreshes_keeps s.calls.calls place end r d there))
    )

-- a response of this class ends the wait of its request
final_asked : (s : Office) (r : Response) (id : ℕ) (t : Transaction) (place : ℕ) (c : StandingCall) (class : Class) → IsResponseTo s r id t → slice_get s.calls.calls place ≡ Some c → IsAsked t.parts c
    → class_of r.status ≡ class → waits_after t.state (row_of t.state (machine_inputs.Response class)) ≡ false → IsFinal s id t (response_input r) place c
final_asked s r id t place c class to there asked is ends = record {
  there = to.there;
  client = answered_client r.parts t to.answers;
  at_place = there;
  asked = asked;
  ends = subst (λ k. waits_after t.state (row_of t.state (machine_inputs.Response k)) ≡ false) (sym is) ends;
}

abbrev pub told_response : Office → Response → ℕ → List Entry
told_response s r id = Tells id (response_input r) (ack_at (at s.table.slots id) r) ∷ []

told_waits : (s : Office) → KnowsTokens s → KnowsWaiting s → (e : Setting) (r : Response) (send : Option Outgoing) (id : ℕ) (t : Transaction) (x : Effect) → IsResponseTo s r id t
    → ResponseRow s e r (told_response s r id) send id t x → Waits s x
told_waits s tokens k e r send id t x to (silent is) = subst (Waits s) (sym is) (plan_waits s k (moves (told_response s r id) send) (λ u opens offers. opens))
told_waits s tokens k e r send id t x to (provisional place status c there asked class at_status is) =
    subst (Waits s) (sym is) (calm_takes s k e (told_response s r id) send None place (inputs.Provisional status) (λ u opens offers. opens) tt refl)
told_waits s tokens k e r send id t x to (answered place c there asked class is) =
    subst (Waits s) (sym is) (
    final_takes s k e send (Some id) place s.tokens id t c (response_input r) (ack_at (at s.table.slots id) r) (inputs.Answer (described r.headers r.body)) (answers_leg s.calls.calls place t.parts r)
    (final_asked s r id t place c Success to there asked class (success_ends t.state)) tt
    (λ d at_d.
    let asked_d = subst (IsAsked t.parts) (same_Some c d (sym there ∙ at_d)) asked in
    record {
      tags = answers_fits s.tokens s.calls.calls place t.parts r d tokens.calls at_d asked_d.waits;
      grows = answers_grows t s.calls.calls place r d at_d asked_d
          (fits_at t s.calls.calls place d (k.awaited id t to.there (record { client = answered_client r.parts t to.answers; offers = asked.offers })) at_d);
      keeps = λ e. absurd (false≢true (sym e));
    })
    )
told_waits s tokens k e r send id t x to (again place acked is) = subst (Waits s) (sym is) (plan_waits s k (acks_again s (told_response s r id) id) (λ u opens offers. opens))
told_waits s tokens k e r send id t x to (fork why is) =
    subst (Waits s) (sym is) (step_waits s k (told_response s r id) send None false 0 _ (λ u opens offers. opens) (fork_waits s.calls (occasion s e) t.parts r why) (λ final. absurd (false≢true final)))
told_waits s tokens k e r send id t x to (ack_alone is) =
    subst (Waits s) (sym is) (step_waits s k (told_response s r id) send None false 0 _ (λ u opens offers. opens) (late_waits s.calls (occasion s e) t.parts r) (λ final. absurd (false≢true final)))
told_waits s tokens k e r send id t x to (refused place status c there asked class at_status is) =
    subst (Waits s) (sym is) (
    final_takes s k e send None place 0 id t c (response_input r) (ack_at (at s.table.slots id) r) (inputs.Refusal status) None
    (final_asked s r id t place c Failure to there asked class (failure_ends t.state)) tt (λ d at_d. no_leg 0 d true)
    )

response_waits : (s : Office) → KnowsTokens s → KnowsWaiting s → (e : Setting) (r : Response) (begun : List Entry) (send : Option Outgoing) (id : ℕ) (t : Transaction) (x : Effect) → IsResponseTo s r id t
    → begun ≡ told_response s r id → ResponseRow s e r begun send id t x → Waits s x
response_waits s tokens k e r begun send id t x to told row = told_waits s tokens k e r send id t x to (subst (λ b. ResponseRow s e r b send id t x) told row)

-- ---- what the transactions do with a message

served_none : (r : Request) (source : Addr) (b : Bool) → NoneOwn (cond b Leaves (Opens (served r source) NoTimer) ∷ [])
served_none r source true t opens client = opens
served_none r source false t (inl is) client = false≢true (sym (subst (λ (u : Transaction). is_server u.state ≡ false) (sym is) client) ∙ served_by (is_method (codes "INVITE") r.parts))
served_none r source false t (inr more) client = more

request_none : (r : Request) (source : Addr) (id : Option ℕ) → NoneOwn (request_change r source id ∷ [])
request_none r source None = served_none r source (is_method (codes "ACK") r.parts)
request_none r source (Some id) = λ t opens offers. opens

response_none : (s : Office) (r : Response) (id : Option ℕ) → NoneOwn (response_change s.table r id ∷ [])
response_none s r None = λ t opens offers. opens
response_none s r (Some id) = λ t opens offers. opens

pub change_none : (s : Office) (m : Message) (source : Addr) → NoneOwn (change_of s.table m source ∷ [])
unfolding change_of
change_none s (Kinds.Request r) source = request_none r source (position (is_asked r.parts) s.table.slots)
change_none s (Kinds.Response r) source = response_none s r (position (is_answered r.parts) s.table.slots)

pub response_told : (s : Office) (e : Setting) (r : Response) (id : ℕ) → position (is_answered r.parts) s.table.slots ≡ Some id
    → begun_by s e (Kinds.Response r) ≡ told_response s r id
unfolding change_of
response_told s e r id found = rw found refl

message_waits : (s : Office) → KnowsTokens s → KnowsWaiting s → s.tokens < 2 ^ 63 → (e : Setting) (m : Message) (send : Option Outgoing) (x : Effect) → MessageRow s e m (begun_by s e m) send x → Waits s x
message_waits s tokens k few e m send x (dropped taken is) = subst (Waits s) (sym is) (plan_waits s k (nothing taken) (λ t opens offers. opens))
message_waits s tokens k few e m send x (moved is) = subst (Waits s) (sym is) (plan_waits s k (moves (begun_by s e m) send) (change_none s m e.source))
message_waits s tokens k few e m send x (requested r id is new row) = request_waits s tokens k few e r (begun_by s e m) id x (change_none s m e.source) row
message_waits s tokens k few e m send x (acknowledged r place is found row_is) =
    subst (Waits s) (sym row_is) (calm_takes s k e (begun_by s e m) None None place inputs.Ack (change_none s m e.source) tt refl)
message_waits s tokens k few e m send x (responded r id t is up to row) =
    response_waits s tokens k e r (begun_by s e m) send id t x to (subst (λ y. begun_by s e y ≡ told_response s r id) (sym is) (response_told s e r id to.position)) row

datagram_waits : (s : Office) → KnowsTokens s → KnowsWaiting s → s.tokens < 2 ^ 63 → (e : Setting) (bytes : List ℕ) (x : Effect) → DatagramRow s e bytes x → Waits s x
datagram_waits s tokens k few e bytes x (ignored taken is) = subst (Waits s) (sym is) (plan_waits s k (nothing taken) (λ t opens offers. opens))
datagram_waits s tokens k few e bytes x (unreadable fault parts unread can is) = subst (Waits s) (sym is) (plan_waits s k _ (λ t opens offers. opens))
datagram_waits s tokens k few e bytes x (unfit_branched r read is) = subst (Waits s) (sym is) (plan_waits s k _ (λ t opens offers. opens))
datagram_waits s tokens k few e bytes x (was_received m read branch reached row) = message_waits s tokens k few e m _ x row

-- ---- what is due

timed_waits : (s : Office) → KnowsWaiting s → (e : Setting) (timer : TimerId) (t : Transaction) (place : ℕ) → fired_of (at s.table.slots timer.id) timer.kind ≡ Some fires.TimedOut
    → times_responses timer.kind ≡ true → at s.table.slots timer.id ≡ Some t → WaitsAt s.calls.calls t.parts place
    → Waits s (takes s e (fire_of timer ∷ []) None None place inputs.TimedOut None)
timed_waits s k e timer t place fired times there found =
    let fired_t = subst (λ o. fired_of o timer.kind ≡ Some fires.TimedOut) there fired in
    final_takes s k e None None place 0 timer.id t found.call (machine_inputs.Fires timer.kind) None inputs.TimedOut None (
    record { there = there; client = timed_client t t.state timer.kind times fired_t; at_place = found.there; asked = found.is_asked; ends = timed_ends t timer.kind fired_t }
    ) tt (λ d at_d. no_leg 0 d true)

timer_takes : (s : Office) → KnowsWaiting s → (e : Setting) (place : ℕ) (timer : CallTimer) → Waits s (takes s e [] None None place (timer_input timer) None)
timer_takes s k e place timers.Limit = calm_takes s k e [] None None place inputs.Limit (λ t opens offers. opens) tt refl
timer_takes s k e place timers.Repeat = calm_takes s k e [] None None place inputs.Repeat (λ t opens offers. opens) tt refl
timer_takes s k e place timers.Wait = calm_takes s k e [] None None place inputs.Wait (λ t opens offers. opens) tt refl
timer_takes s k e place timers.Lifetime = calm_takes s k e [] None None place inputs.Lifetime (λ t opens offers. opens) tt refl

due_waits : (s : Office) → KnowsWaiting s → (e : Setting) (x : Effect) → DueRow s e x → Waits s x
due_waits s k e x (idle is) = subst (Waits s) (sym is) (plan_waits s k _ (λ t opens offers. opens))
due_waits s k e x (listed users is) = subst (Waits s) (sym is) (plan_waits s k _ (λ t opens offers. opens))
due_waits s k e x (sent_again timer out fired is) = subst (Waits s) (sym is) (plan_waits s k (moves (fire_of timer ∷ []) (Some out)) (λ t opens offers. opens))
due_waits s k e x (fired_alone timer fired is) = subst (Waits s) (sym is) (plan_waits s k (moves (fire_of timer ∷ []) None) (λ t opens offers. opens))
due_waits s k e x (timed timer t place fired times there found is) = subst (Waits s) (sym is) (timed_waits s k e timer t place fired times there (timeout_waits s.calls.calls t.parts place found))
due_waits s k e x (ended timer fired is) =
    let w = plan_waits s k (moves (fire_of timer ∷ []) None) (λ t opens offers. opens) in
    subst (Waits s) (sym is) (record { stayed = w.stayed; began = w.began; one = w.one; counted = w.counted; above = w.above; byes = w.byes; keeps = w.keeps; carries = w.carries; sent = w.sent })
due_waits s k e x (stopped timer is) =
    let w = plan_waits (without_call_timer timer s) (record { awaited = k.awaited; once = k.once }) (moves [] None) (λ t opens offers. opens) in
    subst (Waits s) (sym is) (record { stayed = w.stayed; began = w.began; one = w.one; counted = w.counted; above = w.above; byes = w.byes; keeps = w.keeps; carries = w.carries; sent = w.sent })
due_waits s k e x (call_fired timer place found is) =
    let w = timer_takes (without_call_timer timer s) (record { awaited = k.awaited; once = k.once }) e place timer.timer in
    subst (Waits s) (sym is) (record { stayed = w.stayed; began = w.began; one = w.one; counted = w.counted; above = w.above; byes = w.byes; keeps = w.keeps; carries = w.carries; sent = w.sent })

what_waits_by : (s : Office) → KnowsTokens s → KnowsWaiting s → s.tokens < 2 ^ 63 → (now salt : ℕ) (what : What) (x : Effect) → WhatRow s now salt what x → Waits s x
what_waits_by s tokens k few now salt what x (came source bytes is row) = datagram_waits s tokens k few (setting now salt source) bytes x row
what_waits_by s tokens k few now salt what x (due is row) = due_waits s k (setting now salt no_source) x row

pub what_waits : (s : Office) → KnowsTokens s → KnowsWaiting s → s.tokens < 2 ^ 63 → (now salt : ℕ) (what : What) → Waits s (what_row s now salt what)
what_waits s tokens k few now salt what = what_waits_by s tokens k few now salt what (what_row s now salt what) (what_view s now salt what)
