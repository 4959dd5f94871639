-- What each event results in: from the first 2xx that a call takes on it has a dialog with its callee.
use Rattle.std.proofs.Common.{◌<◌, ◌^◌, ◌≡◌, ◌∙◌, ℕ, Bool, true, false, nat_eq, List, [], ◌∷◌, codes, Option, Some, None, Ok, is_some, refl, ap, sym, subst, inl, inr}
use Rattle.std.specs.Prelude.{slice_get}
use Rattle.std.specs.Cmp.Lexicographic.{pointwise}
use Rattle.std.specs.List.{All}
use Rattle.std.proofs.lemmas.Bool.{false≢true}
use Rattle.std.proofs.lemmas.List.Elements.{All-nil, All-set, All-weaker}
use Rattle.std.proofs.lemmas.Option.{none-some, same_Some}
use Rattle.configuration.specs.declared.config.Config.{Config}
use Rattle.sip_uri.specs.declared.uri.Uri.{Uri}
use Rattle.sip_message.specs.Contact.{contacts_of, is_one_address, is_success}
use Rattle.sip_message.specs.Read.{message_of}
use Rattle.sip_message.specs.Words.{class_of, tag_text, tag_value}
use Rattle.sip_message.specs.declared.contact.ContactValue.{ContactValue}
use Rattle.sip_message.specs.declared.contact.ContactValue.TheVariants.{Address, Star, Unreadable}
use Rattle.sip_message.specs.declared.message.Message.{Message}
use Rattle.sip_message.specs.declared.message.Message.TheVariants as Kinds
use Rattle.sip_message.specs.declared.message.Parts.{Parts}
use Rattle.sip_message.specs.declared.message.Request.{Request}
use Rattle.sip_message.specs.declared.message.Response.{Response}
use Rattle.sip_message.specs.declared.words.Class.TheVariants.{Success}
use Rattle.events.specs.declared.event.Event.{Event}
use Rattle.events.specs.declared.event.What.{What}
use Rattle.dialogs.specs.Making.{reached_at}
use Rattle.transactions.specs.Changes.{fire_of}
use Rattle.transactions.specs.declared.change.Entry.{Entry}
use Rattle.transactions.specs.declared.outcome.Outgoing.{Outgoing}
use Rattle.transactions.specs.declared.transaction.Transaction.{Transaction}
use Rattle.call_media.specs.Ends.{is_same, other}
use Rattle.call_media.specs.declared.end.End.{End}
use Rattle.call_media.specs.declared.end.End.TheVariants.{Callee, Caller}
use Rattle.call_core.specs.declared.action.CallTimer.{CallTimer}
use Rattle.call_core.specs.declared.action.CallTimer.TheVariants as timers
use Rattle.call_core.specs.declared.input.Input.{Input}
use Rattle.call_core.specs.declared.input.Input.TheVariants as inputs
use Rattle.call_core.specs.declared.stage.Standing as stage
use Rattle.calls.specs.Carrying.{changed_at, offerer_of, with_dialog_at}
use Rattle.calls.specs.Changes.{unchanged}
use Rattle.calls.specs.State.{Standing}
use Rattle.calls.specs.declared.change.LegDialog.{LegDialog}
use Rattle.calls.specs.declared.standing_call.StandingCall.{StandingCall}
use Rattle.call_rules.specs.Content.{described}
use Rattle.call_rules.specs.Responses.{asked_end}
use Rattle.call_rules.specs.Speaking.{is_invite}
use Rattle.call_steps.specs.Effects as steps
use Rattle.call_steps.specs.Rows.{answers_leg, counts, fork_by, fork_row, late_by, late_row, leg_by, refreshes}
use Rattle.call_steps.specs.declared.occasion.Occasion.{Occasion}
use Rattle.plans.specs.CallRows.{acks_again, occasion, of_plan, okay_plan, puts_if, takes, takes_request, timer_input, with_step, without_call_timer}
use Rattle.plans.specs.Effect.{Effect}
use Rattle.plans.specs.Office.{Office}
use Rattle.plans.specs.Plan.{Plan, moves, nothing}
use Rattle.plans.specs.Replies.{refuses_for, reply_row}
use Rattle.plans.specs.declared.setting.Setting.{Setting}
use Rattle.plans.specs.declared.taken.Taken.{Taken}
use Rattle.event_rows.specs.Rows.{after, moment_after, no_source, only_counts, row, row_by, setting, what_row}
use Rattle.event_rows.specs.State.{Contents, IsNew, after_event, moment_at, office}
use Rattle.event_rows.specs.Trace.{Entry as TraceEntry, after_answer, after_entries, after_entry}
use Rattle.message_laws.specs.CalleeDialogs.{AsksFirst, HasCallee, KnowsCallees}
use Rattle.message_laws.specs.Knowing.{KnowsTokens}
use Rattle.message_laws.specs.Tokens.{IsMade}
use Rattle.message_laws.specs.Waiting.{IsOffering, KnowsWaiting, from_tag}
use Rattle.message_laws.proofs.AwaitedOffers.Awaiting.{all_at, fits_at, opened}
use Rattle.message_laws.proofs.StandingCalls.CalleeSteps.{CalleeStep, PutsCallee, Settles, first_callee, nothing_callee, offers_callee, takes_callee}
use Rattle.message_laws.proofs.AwaitedOffers.Coming.{CameFrom, IsLater, OpensIn, all_came, began, stayed}
use Rattle.message_laws.proofs.TokenUse.Events.{after_knows, few_tokens, new_knows}
use Rattle.message_laws.proofs.Messages.MessageViews.{IsResponseTo, MessageRow, acknowledged, begun_by, dropped, moved, requested, responded}
use Rattle.message_laws.proofs.AwaitedOffers.Offering.{opens_split}
use Rattle.message_laws.proofs.AwaitedOffers.Once.{NoneOffers, NoneOwn, offering_before}
use Rattle.message_laws.proofs.StandingCalls.Reaching.{response_method, success_is}
use Rattle.message_laws.proofs.Messages.Replying.{okay_reply, refuses_reply, row_reply}
use Rattle.message_laws.proofs.Messages.RequestViews.{RequestRow, asks_callee, cancelled, counted_alone, left, passed_on, refreshed, replied, unfit}
use Rattle.message_laws.proofs.Messages.ResponseViews.{IsAsked, ResponseRow, ack_alone, again, answered, fork, provisional, refused, silent}
use Rattle.message_laws.proofs.TokenUse.Rows.{answered_client}
use Rattle.message_laws.proofs.TokenUse.Slots.{own_at}
use Rattle.message_laws.proofs.TokenUse.TaggedSteps.{answers_fits, asked_leg, counts_fits}
use Rattle.message_laws.proofs.AwaitedOffers.Tables.{IsNoOfferInput, consumes_input}
use Rattle.message_laws.proofs.Messages.Views.{DatagramRow, DueRow, WhatRow, call_fired, came, due, ended, fired_alone, idle, listed, ignored, sent_again, stopped, timed, unfit_branched, unreadable, was_received, what_view}
use Rattle.message_laws.proofs.AwaitedOffers.WaitEffects.{answers_grows, fork_waits, late_waits, reply_none}
use Rattle.message_laws.proofs.AwaitedOffers.WaitEvents.{after_waits, new_waits, none_at}
use Rattle.message_laws.proofs.AwaitedOffers.WaitPassed.{passes_settled}
use Rattle.message_laws.proofs.AwaitedOffers.WaitRows.{calm_leg, change_none, no_leg}
use Rattle.message_laws.proofs.AwaitedOffers.WaitSteps.{counts_keeps}
use Rattle.message_laws.proofs.AwaitedOffers.WaitTakes.{LegFits, same_is}

-- the dialog of a 2xx to an INVITE that was read can be made: it names one Contact
abbrev pub NamesContact : Type 0
NamesContact = (text : List ℕ) (r : Response) → message_of text ≡ Ok (Kinds.Response r) → is_invite r.parts ≡ true → is_success r.status ≡ true → is_one_address (contacts_of r.headers) ≡ true

-- ---- an effect

pub record Callees (s : Office) (x : Effect) : Type 0 where
  pub calls : All HasCallee s.calls.calls → All HasCallee x.calls.standing.calls
  pub stayed : (t : Transaction) → IsMade s.tokens (from_tag t) → All (AsksFirst t) s.calls.calls → All (AsksFirst t) x.calls.standing.calls
  pub began : All HasCallee s.calls.calls → (t : Transaction) → OpensIn t x.plan.changes → IsOffering t → All (AsksFirst t) x.calls.standing.calls

plan_callees : (s : Office) (p : Plan) → NoneOwn p.changes → Callees s (of_plan s p)
plan_callees s p none = record { calls = λ all. all; stayed = λ t tag each. each; began = λ all t opens offers. absurd (none t opens offers.client) }

step_callees : (s : Office) (begun : List Entry) (send : Option Outgoing) (id : Option ℕ) (x : steps.Effect) → NoneOwn begun → CalleeStep s.tokens s.calls.calls x → Callees s (with_step s.acks begun send id x)
step_callees s begun send id x none step = record {
  calls = step.calls;
  stayed = step.stayed;
  began = λ all t opens offers. elim (opens_split t begun x.dressed.changes opens) [ inl h ↦ absurd (none t h offers.client) | inr h ↦ step.began all t h offers ];
}

takes_callees : (s : Office) (e : Setting) (begun : List Entry) (send : Option Outgoing) (id : Option ℕ) (place : ℕ) (input : Input) (leg : Option LegDialog) → NoneOwn begun → IsNoOfferInput input
    → ((d : StandingCall) → slice_get s.calls.calls place ≡ Some d → LegFits (consumes_input input) s.tokens leg d × Settles d input leg) → Callees s (takes s e begun send id place input leg)
takes_callees s e begun send id place input leg none no_offer fits = step_callees s begun send id _ none (takes_callee s.calls s.table (occasion s e) place s.tokens input leg None no_offer fits)

asked_callees : (s : Office) (e : Setting) (r : Request) (begun : List Entry) (id place : ℕ) (input : Input) (leg : Option LegDialog) (tag : List ℕ) → NoneOwn begun → IsNoOfferInput input
    → ((d : StandingCall) → slice_get s.calls.calls place ≡ Some d → LegFits (consumes_input input) s.tokens leg d × Settles d input leg) → Callees s (takes_request s e r begun id place input leg tag)
asked_callees s e r begun id place input leg tag none no_offer fits = step_callees s begun None None _ none (takes_callee s.calls s.table (occasion s e) place s.tokens input leg _ no_offer fits)

-- one that answers nothing
plain : (made : ℕ) (input : Input) (final : Bool) (d : StandingCall) → ((e : StandingCall) → Settles e input None) → LegFits final made None d × Settles d input None
plain made input final d settles = (no_leg made d final, settles d)

-- ---- a dialog is put beside a call

put_has : (end : End) (dialog : _) (c : StandingCall) → HasCallee c → HasCallee (with_dialog_at end dialog c)
put_has Caller dialog c has n is = has n is
put_has Callee dialog c has n is = tt

put_asks : (t : Transaction) (end : End) (dialog : _) (c : StandingCall) → AsksFirst t c → AsksFirst t (with_dialog_at end dialog c)
put_asks t Caller dialog c h = h
put_asks t Callee dialog c h = λ tag none. absurd (none-some dialog (sym none))

changed_all : (P : StandingCall → Type 0) (leg : LegDialog) (place : ℕ) (calls : List StandingCall) (c : Option StandingCall) → slice_get calls place ≡ c
    → ((d : StandingCall) → P d → P (with_dialog_at leg.end leg.dialog d)) → All P calls → All P (changed_at (with_dialog_at leg.end leg.dialog) place calls c)
changed_all P leg place calls None there put all = all
changed_all P leg place calls (Some c) there put all = All-set P calls place (with_dialog_at leg.end leg.dialog c) (put c (all_at P calls place c all there)) all

puts_all : (P : StandingCall → Type 0) (calls : Standing) (place : ℕ) (leg : Option LegDialog) → ((end : End) (dialog : _) (d : StandingCall) → P d → P (with_dialog_at end dialog d)) → All P calls.calls
    → All P (puts_if calls place leg).calls
puts_all P calls place None put all = all
puts_all P calls place (Some leg) put all = changed_all P leg place calls.calls (slice_get calls.calls place) refl (put leg.end leg.dialog) all

put_callees : (s : Office) (p : Plan) (place : ℕ) (leg : Option LegDialog) → NoneOwn p.changes → Callees s (record { plan = p; calls = unchanged (puts_if s.calls place leg); acks = s.acks })
put_callees s p place leg none = record {
  calls = λ all. puts_all HasCallee s.calls place leg put_has all;
  stayed = λ t tag each. puts_all (AsksFirst t) s.calls place leg (put_asks t) each;
  began = λ all t opens offers. absurd (none t opens offers.client);
}

-- ---- 2xx

one_reached : (values : List ContactValue) → is_one_address values ≡ true → is_some (reached_at values) ≡ true
one_reached [] h = absurd (false≢true h)
one_reached (Star ∷ more) h = absurd (false≢true h)
one_reached (Unreadable ∷ more) h = absurd (false≢true h)
one_reached (Address name ∷ []) h = refl
one_reached (Address name ∷ other ∷ more) h = absurd (false≢true h)

leg_puts : (asked : Parts) (r : Response) (target : Option Uri) (d : StandingCall) (s : stage.Standing) → is_some target ≡ true → d.call.standing ≡ Some s → s.offerer ≡ Caller → PutsCallee (leg_by asked r target (Some d))
leg_puts asked r None d s some stands first = absurd (false≢true some)
leg_puts asked r (Some target) d s some stands first = ap (λ standing. other (offerer_of standing)) stands ∙ ap other first

-- it is one to the callee's INVITE
answer_settles : NamesContact → (s : Office) → KnowsCallees s → (text : List ℕ) (r : Response) (id : ℕ) (t : Transaction) (place : ℕ) (d : StandingCall) (answer : _) → message_of text ≡ Ok (Kinds.Response r)
    → IsResponseTo s r id t → class_of r.status ≡ Success → slice_get s.calls.calls place ≡ Some d → IsAsked t.parts d → Settles d (inputs.Answer answer) (answers_leg s.calls.calls place t.parts r)
unfolding answers_leg
answer_settles names s k text r id t place d answer read to class there asked fit none n stands first =
    let before = opened t.parts d asked.waits in
    let same : before.0 ≡ n = same_Some before.0 n (sym before.1.stands ∙ stands) in
    let end : asked_end t.parts d ≡ Callee =
    same_is (asked_end t.parts d) (other before.0.offerer) before.1.end ∙ ap (λ (m : stage.Standing). other m.offerer) same ∙ ap other first.offerer in
    let tag : from_tag t ≡ d.callee_tag = sym (asked_leg t.parts d (ap (λ x. is_same x Callee) end)) in
    let invite : is_invite t.parts ≡ true =
    all_at (AsksFirst t) s.calls.calls place d (k.requests id t to.there (record { client = answered_client r.parts t to.answers; offers = asked.offers })) there tag none in
    let invited : is_invite r.parts ≡ true = subst (λ m. pointwise nat_eq m (codes "INVITE") ≡ true) (sym (response_method r.parts t to.answers)) invite in
    let reached : is_some (reached_at (contacts_of r.headers)) ≡ true = one_reached (contacts_of r.headers) (names text r read invited (success_is r.status class)) in
    subst (λ c. PutsCallee (leg_by t.parts r (reached_at (contacts_of r.headers)) c)) (sym there) (leg_puts t.parts r (reached_at (contacts_of r.headers)) d n reached stands first.offerer)

fork_by_callee : (made : ℕ) (calls : Standing) (o : Occasion) (asked : Parts) (r : Response) (contact : Option Uri) → NoneOffers (fork_by calls o asked r contact).dressed.changes
    → CalleeStep made calls.calls (fork_by calls o asked r contact)
fork_by_callee made calls o asked r None none = nothing_callee made calls
fork_by_callee made calls o asked r (Some target) none = record { calls = λ all. all; stayed = λ t tag each. each; began = λ all t opens offers. absurd (none t opens offers) }

fork_callee : (made : ℕ) (calls : Standing) (o : Occasion) (asked : Parts) (r : Response) → NoneOffers (fork_row calls o asked r).dressed.changes → CalleeStep made calls.calls (fork_row calls o asked r)
unfolding fork_row
fork_callee made calls o asked r none = fork_by_callee made calls o asked r (reached_at (contacts_of r.headers)) none

late_by_callee : (made : ℕ) (calls : Standing) (o : Occasion) (asked : Parts) (r : Response) (contact : Option Uri) → NoneOffers (late_by calls o asked r contact).dressed.changes
    → CalleeStep made calls.calls (late_by calls o asked r contact)
late_by_callee made calls o asked r None none = nothing_callee made calls
late_by_callee made calls o asked r (Some target) none = record { calls = λ all. all; stayed = λ t tag each. each; began = λ all t opens offers. absurd (none t opens offers) }

late_callee : (made : ℕ) (calls : Standing) (o : Occasion) (asked : Parts) (r : Response) → NoneOffers (late_row calls o asked r).dressed.changes → CalleeStep made calls.calls (late_row calls o asked r)
unfolding late_row
late_callee made calls o asked r none = late_by_callee made calls o asked r (reached_at (contacts_of r.headers)) none

-- ---- the rows

request_callees : (s : Office) → KnowsTokens s → s.tokens < 2 ^ 63 → (e : Setting) (r : Request) (begun : List Entry) (id : ℕ) (x : Effect) → NoneOwn begun → RequestRow s e r begun id x → Callees s x
request_callees s tokens few e r begun id x none (replied reply why is) = subst (Callees s) (sym is) (plan_callees s (reply_row s e r begun id reply) (reply_none begun id _ (row_reply s e r begun id reply) none))
request_callees s tokens few e r begun id x none (unfit reason is) =
    subst (Callees s) (sym is) (plan_callees s (refuses_for s e r begun id reason) (reply_none begun id _ (refuses_reply s e r begun id reason) none))
request_callees s tokens few e r begun id x none (asks_callee to offer why is) =
    subst (Callees s) (sym is) (step_callees s begun None None _ none (first_callee s.calls (occasion s e) r id e.source to offer (no_tag_text r.parts why.no_tag) few tokens.calls))
  where
    no_tag_text : (parts : Parts) → tag_value parts.to.params ≡ None → tag_text parts.to.params ≡ []
    no_tag_text parts without = rw without refl
request_callees s tokens few e r begun id x none (cancelled other place named_is found is) =
    subst (Callees s) (sym is) (asked_callees s e r begun id place inputs.Cancel None _ none tt (λ d there. plain s.tokens inputs.Cancel false d (λ y fit. absurd (false≢true fit))))
request_callees s tokens few e r begun id x none (left place end rule_is is) =
    subst (Callees s) (sym is) (
    asked_callees s e r begun id place (inputs.Bye end) _ _ none tt
    (λ d there.
    (calm_leg s.tokens _ d (counts_fits s.tokens s.calls.calls place end r.parts.cseq.number d tokens.calls there) (counts_keeps s.calls.calls place end r.parts.cseq.number d there), λ fit. absurd (false≢true fit)))
    )
request_callees s tokens few e r begun id x none (counted_alone place end reason why is) =
    subst (Callees s) (sym is) (put_callees s (refuses_for s e r begun id reason) place (counts s.calls.calls place end r.parts.cseq.number) (reply_none begun id _ (refuses_reply s e r begun id reason) none))
request_callees s tokens few e r begun id x none (passed_on place end c offer rule_is why is) =
    subst (Callees s) (sym is) (
    step_callees s begun None None _ none
    (offers_callee s.calls s.table (occasion s e) place end _ offer r id e.source c why.there (passes_settled r end c.call why.passes) tokens.calls)
    )
request_callees s tokens few e r begun id x none (refreshed place end why is) =
    subst (Callees s) (sym is) (put_callees s (okay_plan s e r begun id) place (refreshes s.calls.calls place end r) (reply_none begun id _ (okay_reply s e r begun id) none))

response_callees : NamesContact → (s : Office) → KnowsTokens s → KnowsWaiting s → KnowsCallees s → (e : Setting) (text : List ℕ) (r : Response) (begun : List Entry) (send : Option Outgoing) (id : ℕ) (t : Transaction)
    (x : Effect) → message_of text ≡ Ok (Kinds.Response r) → IsResponseTo s r id t → NoneOwn begun → ResponseRow s e r begun send id t x → Callees s x
response_callees names s tokens k callees e text r begun send id t x read to none (silent is) = subst (Callees s) (sym is) (plan_callees s (moves begun send) none)
response_callees names s tokens k callees e text r begun send id t x read to none (provisional place status c there asked class at_status is) =
    subst (Callees s) (sym is) (takes_callees s e begun send None place (inputs.Provisional status) None none tt (λ d at_d. plain s.tokens (inputs.Provisional status) false d (λ y fit. absurd (false≢true fit))))
response_callees names s tokens k callees e text r begun send id t x read to none (answered place c there asked class is) =
    subst (Callees s) (sym is) (
    takes_callees s e begun send (Some id) place (inputs.Answer (described r.headers r.body)) (answers_leg s.calls.calls place t.parts r) none tt
    (λ d at_d.
    let asked_d = subst (IsAsked t.parts) (same_Some c d (sym there ∙ at_d)) asked in (
      record {
        tags = answers_fits s.tokens s.calls.calls place t.parts r d tokens.calls at_d asked_d.waits;
        grows = answers_grows t s.calls.calls place r d at_d asked_d
            (fits_at t s.calls.calls place d (k.awaited id t to.there (record { client = answered_client r.parts t to.answers; offers = asked.offers })) at_d);
        keeps = λ calm. absurd (false≢true (sym calm));
      },
      answer_settles names s callees text r id t place d (described r.headers r.body) read to class at_d asked_d,
    ))
    )
response_callees names s tokens k callees e text r begun send id t x read to none (again place acked is) = subst (Callees s) (sym is) (plan_callees s (acks_again s begun id) none)
response_callees names s tokens k callees e text r begun send id t x read to none (fork why is) =
    subst (Callees s) (sym is) (step_callees s begun send None _ none (fork_callee s.tokens s.calls (occasion s e) t.parts r (fork_waits s.calls (occasion s e) t.parts r why).none))
response_callees names s tokens k callees e text r begun send id t x read to none (ack_alone is) =
    subst (Callees s) (sym is) (step_callees s begun send None _ none (late_callee s.tokens s.calls (occasion s e) t.parts r (late_waits s.calls (occasion s e) t.parts r).none))
response_callees names s tokens k callees e text r begun send id t x read to none (refused place status c there asked class at_status is) =
    subst (Callees s) (sym is) (takes_callees s e begun send None place (inputs.Refusal status) None none tt (λ d at_d. plain s.tokens (inputs.Refusal status) true d (λ y fit. absurd (false≢true fit))))

message_callees : NamesContact → (s : Office) → KnowsTokens s → KnowsWaiting s → KnowsCallees s → s.tokens < 2 ^ 63 → (e : Setting) (text : List ℕ) (m : Message) (send : Option Outgoing) (x : Effect) → message_of text ≡ Ok m
    → MessageRow s e m (begun_by s e m) send x → Callees s x
message_callees names s tokens k callees few e text m send x read (dropped taken is) = subst (Callees s) (sym is) (plan_callees s (nothing taken) (λ t opens client. opens))
message_callees names s tokens k callees few e text m send x read (moved is) = subst (Callees s) (sym is) (plan_callees s (moves (begun_by s e m) send) (change_none s m e.source))
message_callees names s tokens k callees few e text m send x read (requested r id is new row) = request_callees s tokens few e r (begun_by s e m) id x (change_none s m e.source) row
message_callees names s tokens k callees few e text m send x read (acknowledged r place is found row_is) =
    subst (Callees s) (sym row_is) (takes_callees s e (begun_by s e m) None None place inputs.Ack None (change_none s m e.source) tt (λ d there. plain s.tokens inputs.Ack false d (λ y fit. absurd (false≢true fit))))
message_callees names s tokens k callees few e text m send x read (responded r id t is up to row) =
    response_callees names s tokens k callees e text r (begun_by s e m) send id t x (subst (λ y. message_of text ≡ Ok y) is read) to (change_none s m e.source) row

datagram_callees : NamesContact → (s : Office) → KnowsTokens s → KnowsWaiting s → KnowsCallees s → s.tokens < 2 ^ 63 → (e : Setting) (bytes : List ℕ) (x : Effect) → DatagramRow s e bytes x → Callees s x
datagram_callees names s tokens k callees few e bytes x (ignored taken is) = subst (Callees s) (sym is) (plan_callees s (nothing taken) (λ t opens client. opens))
datagram_callees names s tokens k callees few e bytes x (unreadable fault parts unread can is) = subst (Callees s) (sym is) (plan_callees s _ (λ t opens client. opens))
datagram_callees names s tokens k callees few e bytes x (unfit_branched r read is) = subst (Callees s) (sym is) (plan_callees s _ (λ t opens client. opens))
datagram_callees names s tokens k callees few e bytes x (was_received m read branch reached row) = message_callees names s tokens k callees few e bytes m _ x read row

timer_callees : (s : Office) (e : Setting) (place : ℕ) (timer : CallTimer) → Callees s (takes s e [] None None place (timer_input timer) None)
timer_callees s e place timers.Limit = takes_callees s e [] None None place inputs.Limit None (λ t opens client. opens) tt (λ d there. plain s.tokens inputs.Limit false d (λ y fit. absurd (false≢true fit)))
timer_callees s e place timers.Repeat = takes_callees s e [] None None place inputs.Repeat None (λ t opens client. opens) tt (λ d there. plain s.tokens inputs.Repeat false d (λ y fit. absurd (false≢true fit)))
timer_callees s e place timers.Wait = takes_callees s e [] None None place inputs.Wait None (λ t opens client. opens) tt (λ d there. plain s.tokens inputs.Wait false d (λ y fit. absurd (false≢true fit)))
timer_callees s e place timers.Lifetime = takes_callees s e [] None None place inputs.Lifetime None (λ t opens client. opens) tt (λ d there. plain s.tokens inputs.Lifetime false d (λ y fit. absurd (false≢true fit)))

due_callees : (s : Office) (e : Setting) (x : Effect) → DueRow s e x → Callees s x
due_callees s e x (idle is) = subst (Callees s) (sym is) (plan_callees s _ (λ t opens client. opens))
due_callees s e x (listed users is) = subst (Callees s) (sym is) (plan_callees s _ (λ t opens client. opens))
due_callees s e x (sent_again timer out fired is) = subst (Callees s) (sym is) (plan_callees s _ (λ t opens client. opens))
due_callees s e x (fired_alone timer fired is) = subst (Callees s) (sym is) (plan_callees s _ (λ t opens client. opens))
due_callees s e x (timed timer t place fired times there found is) =
    subst (Callees s) (sym is) (takes_callees s e (fire_of timer ∷ []) None None place inputs.TimedOut None (λ t opens client. opens) tt (λ d at_d. plain s.tokens inputs.TimedOut true d (λ y fit. absurd (false≢true fit))))
due_callees s e x (ended timer fired is) = subst (Callees s) (sym is) (record { calls = λ all. all; stayed = λ t tag each. each; began = λ all t opens offers. absurd opens })
due_callees s e x (stopped timer is) = subst (Callees s) (sym is) (record { calls = λ all. all; stayed = λ t tag each. each; began = λ all t opens offers. absurd opens })
due_callees s e x (call_fired timer place found is) =
    let callees = timer_callees (without_call_timer timer s) e place timer.timer in
    subst (Callees s) (sym is) (record { calls = callees.calls; stayed = callees.stayed; began = callees.began })

what_callees : NamesContact → (s : Office) → KnowsTokens s → KnowsWaiting s → KnowsCallees s → s.tokens < 2 ^ 63 → (now salt : ℕ) (what : What) (x : Effect) → WhatRow s now salt what x → Callees s x
what_callees names s tokens k callees few now salt what x (came source bytes is row) = datagram_callees names s tokens k callees few (setting now salt source) bytes x row
what_callees names s tokens k callees few now salt what x (due is row) = due_callees s (setting now salt no_source) x row

-- ---- an event

event_callees : NamesContact → (s : Contents) → KnowsTokens (office s) → KnowsWaiting (office s) → KnowsCallees (office s) → (e : Event) (taken : Option Taken) → only_counts s e ≡ taken → Callees (office s) (row_by s e taken)
event_callees names s tokens k callees e (Some taken) is = plan_callees (office s) (nothing taken) (λ t opens client. opens)
event_callees names s tokens k callees e None is =
    what_callees names (office s) tokens k callees (few_tokens s e is) (moment_at s e.now) e.salt e.what (what_row (office s) (moment_at s e.now) e.salt e.what) (what_view (office s) (moment_at s e.now) e.salt e.what)

row_callees : NamesContact → (s : Contents) → KnowsTokens (office s) → KnowsWaiting (office s) → KnowsCallees (office s) → (e : Event) → Callees (office s) (row s e)
unfolding row
row_callees names s tokens k callees e = event_callees names s tokens k callees e (only_counts s e) refl

later_asks : (t u : Transaction) (calls : List StandingCall) → IsLater t u → All (AsksFirst t) calls → All (AsksFirst u) calls
later_asks t u calls later each =
    All-weaker (AsksFirst t) (AsksFirst u) (λ c h. subst (λ p. tag_text p.from.params ≡ c.callee_tag → c.call.callee ≡ None → is_invite p ≡ true) (sym later.parts) h) calls each

asks_by : (s : Contents) → KnowsTokens (office s) → KnowsCallees (office s) → (x : Effect) → Callees (office s) x → (id : ℕ) (u : Transaction) → IsOffering u → CameFrom s.table.slots x.plan.changes id u
    → All (AsksFirst u) x.calls.standing.calls
asks_by s tokens callees x effect id u offers (stayed t there later) =
    let before = offering_before t u later offers in
    later_asks t u x.calls.standing.calls later (effect.stayed t (own_at s.tokens s.table.slots id t tokens.slots there before.client).tag (callees.requests id t there before))
asks_by s tokens callees x effect id u offers (began t opens later) = later_asks t u x.calls.standing.calls later (effect.began callees.calls t opens (offering_before t u later offers))

callees_by : (s : Contents) → KnowsTokens (office s) → KnowsCallees (office s) → (now : ℕ) (x : Effect) → Callees (office s) x → KnowsCallees (office (after_event s now x))
unfolding after_event
callees_by s tokens callees now x effect = record {
  calls = effect.calls callees.calls;
  requests = λ id u there offers. asks_by s tokens callees x effect id u offers (all_came now s.table x.plan.changes id u there);
}

pub after_callees : NamesContact → (s : Contents) (e : Event) → KnowsTokens (office s) → KnowsWaiting (office s) → KnowsCallees (office s) → KnowsCallees (office (after s e))
after_callees names s e tokens k callees = callees_by s tokens callees (moment_after s e) (row s e) (row_callees names s tokens k callees e)

pub new_callees : (c : Config) (s : Contents) → IsNew c s → KnowsCallees (office s)
new_callees c s new = record {
  calls = subst (All HasCallee) (sym new.calls) (All-nil HasCallee);
  requests = λ id t there. absurd (none_at s.table.slots id t new.slots there);
}

answer_callees : NamesContact → (s : Contents) (e : Event) (taken : Option Taken) → KnowsTokens (office s) → KnowsWaiting (office s) → KnowsCallees (office s) → KnowsCallees (office (after_answer s e taken))
answer_callees names s e None tokens k callees = callees
answer_callees names s e (Some taken) tokens k callees = after_callees names s e tokens k callees

answer_tokens : (s : Contents) (e : Event) (taken : Option Taken) → KnowsTokens (office s) → KnowsTokens (office (after_answer s e taken))
answer_tokens s e None tokens = tokens
answer_tokens s e (Some taken) tokens = after_knows s e tokens

answer_waiting : (s : Contents) (e : Event) (taken : Option Taken) → KnowsTokens (office s) → KnowsWaiting (office s) → KnowsWaiting (office (after_answer s e taken))
answer_waiting s e None tokens k = k
answer_waiting s e (Some taken) tokens k = after_waits s e tokens k

list_callees : NamesContact → (s : Contents) (xs : List TraceEntry) → KnowsTokens (office s) → KnowsWaiting (office s) → KnowsCallees (office s) → KnowsCallees (office (after_entries s xs))
list_callees names s [] tokens k callees = callees
list_callees names s (x ∷ xs) tokens k callees =
    list_callees names (after_entry s x) xs (answer_tokens s x.event x.answer tokens) (answer_waiting s x.event x.answer tokens k) (answer_callees names s x.event x.answer tokens k callees)

pub known_callees : NamesContact → (c : Config) (s : Contents) (xs : List TraceEntry) → IsNew c s → KnowsCallees (office (after_entries s xs))
known_callees names c s xs new = list_callees names s xs (new_knows c s new) (new_waits c s new) (new_callees c s new)
