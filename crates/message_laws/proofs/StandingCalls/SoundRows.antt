-- What each event results in: the dialogs of the calls afterwards are sound, and the requests of the server's own
-- that begin say dialogs.
use Rattle.std.proofs.Common.{◌<◌, ◌^◌, ◌≡◌, ◌∙◌, ℕ, false, List, [], ◌∷◌, Option, Some, None, Ok, refl, sym, subst, inl, inr, ◌+◌, arith}
use Rattle.std.specs.List.{All}
use Rattle.std.proofs.lemmas.List.Elements.{All-nil}
use Rattle.std.proofs.lemmas.Option.{none-some}
use Rattle.configuration.specs.declared.config.Config.{Config}
use Rattle.sip_message.specs.Contact.{contacts_of}
use Rattle.sip_message.specs.Read.{message_of}
use Rattle.sip_message.specs.declared.message.Message.{Message}
use Rattle.sip_message.specs.declared.message.Message.TheVariants as Kinds
use Rattle.sip_message.specs.declared.message.Request.{Request}
use Rattle.sip_message.specs.declared.message.Response.{Response}
use Rattle.registrar.specs.Registrar as registrar
use Rattle.registrar.specs.Bound.{target_of}
use Rattle.registrar.specs.Registering.{user_of}
use Rattle.registrar.specs.declared.change.RegistrarChange.{RegistrarChange}
use Rattle.registrar.specs.declared.change.RegistrarChange.TheVariants.{Binds, Lists}
use Rattle.registrar.specs.Registrar.{bindings_at, bindings_of, rules_of}
use Rattle.sip_uri.specs.declared.uri.Uri.{Uri}
use Rattle.events.specs.declared.event.Event.{Event}
use Rattle.events.specs.declared.event.What.{What}
use Rattle.transaction_machines.specs.Machines.{is_server}
use Rattle.transactions.specs.Changes.{fire_of}
use Rattle.transactions.specs.declared.change.Entry.{Entry}
use Rattle.transactions.specs.declared.outcome.Outgoing.{Outgoing}
use Rattle.transactions.specs.declared.transaction.Transaction.{Transaction}
use Rattle.dialogs.specs.Making.{callees_dialog, reached_at}
use Rattle.dialogs.specs.Sound.{IsSound}
use Rattle.call_core.specs.declared.input.Input.{Input}
use Rattle.call_core.specs.declared.input.Input.TheVariants as inputs
use Rattle.calls.specs.Changes.{unchanged}
use Rattle.calls.specs.declared.change.LegDialog.{LegDialog}
use Rattle.call_rules.specs.Content.{described}
use Rattle.call_steps.specs.Effects as steps
use Rattle.call_messages.specs.Messages.{new_leg}
use Rattle.call_steps.specs.Rows.{answers_leg, counts, first_leg, refreshes}
use Rattle.call_steps.specs.Scenes.{fresh}
use Rattle.call_steps.specs.declared.occasion.Occasion.{Occasion}
use Rattle.plans.specs.CallRows.{acks_again, occasion, of_plan, okay_plan, puts_if, takes, takes_request, timer_input, with_step, without_call_timer}
use Rattle.event_rows.specs.Rules.{target, target_by}
use Rattle.plans.specs.Effect.{Effect}
use Rattle.plans.specs.Office.{Office}
use Rattle.plans.specs.Plan.{Plan, moves, nothing}
use Rattle.plans.specs.Replies.{refuses_for, reply_row}
use Rattle.plans.specs.declared.setting.Setting.{Setting}
use Rattle.plans.specs.declared.taken.Taken.{Taken}
use Rattle.event_rows.specs.Rows.{after, is_unreachable_message, moment_after, no_source, only_counts, row, row_by, setting, what_row}
use Rattle.event_rows.specs.State.{Contents, IsNew, after_event, moment_at, office, registered_by}
use Rattle.event_rows.specs.Trace.{Entry as TraceEntry, after_answer, after_entries, after_entry}
use Rattle.message_laws.specs.Addresses.{HasOctets}
use Rattle.message_laws.specs.Sound.{HasSoundLegs, IsBound, IsSoundLeg, IsTarget, IsTargetIf, KnowsDialogs, SaysDialog}
use Rattle.message_laws.proofs.StandingCalls.Bindings.{IsBoundPlan, bound_target, entries_bound, kept_bound, reply_bound}
use Rattle.message_laws.proofs.AwaitedOffers.Coming.{CameFrom, OpensIn, all_came, began, stayed}
use Rattle.message_laws.proofs.TokenUse.Events.{few_tokens}
use Rattle.message_laws.proofs.Messages.MessageViews.{MessageRow, acknowledged, begun_by, dropped, moved, requested, responded}
use Rattle.message_laws.proofs.AwaitedOffers.Offering.{opens_split}
use Rattle.message_laws.proofs.AwaitedOffers.Once.{NoneOwn}
use Rattle.message_laws.proofs.StandingCalls.Reaching.{offer_reached, offers_may_offer, plain_may_offer, plain_reached, response_may_offer, response_reached}
use Rattle.message_laws.proofs.StandingCalls.Reading.{Reading, reached_target}
use Rattle.message_laws.proofs.Messages.Replying.{okay_reply, refuses_reply, row_reply}
use Rattle.message_laws.proofs.Messages.RequestViews.{RequestRow, asks_callee, cancelled, counted_alone, left, passed_on, refreshed, replied, unfit}
use Rattle.message_laws.proofs.Messages.ResponseViews.{ResponseRow, ack_alone, again, answered, fork, provisional, refused, silent}
use Rattle.message_laws.proofs.Messages.MessageViews.{IsResponseTo}
use Rattle.message_laws.proofs.TokenUse.Rows.{answered_client}
use Rattle.message_laws.proofs.StandingCalls.SoundCalls.{IsSoundPut, counts_sound, puts_sound}
use Rattle.message_laws.proofs.TokenUse.TokenRuns.{token_run}
use Rattle.message_laws.proofs.StandingCalls.SoundSteps.{SoundStep, answers_sound, first_ends, first_sound, fork_sound, late_sound, offers_sound, refreshes_sound, takes_sound}
use Rattle.message_laws.proofs.Messages.Views.{DatagramRow, DueRow, WhatRow, call_fired, came, due, ended, fired_alone, idle, listed, ignored, sent_again, stopped, timed, unfit_branched, unreadable, was_received, what_view}
use Rattle.message_laws.proofs.AwaitedOffers.WaitEffects.{reply_none}
use Rattle.message_laws.proofs.AwaitedOffers.WaitEvents.{none_at}
use Rattle.message_laws.proofs.AwaitedOffers.WaitRows.{change_none}

-- ---- an effect

pub record Sounds (s : Office) (x : Effect) : Type 0 where
  pub began : (t : Transaction) → OpensIn t x.plan.changes → is_server t.state ≡ false → SaysDialog t.parts
  pub calls : All HasSoundLegs x.calls.standing.calls
  pub registered : IsBoundPlan x.plan.registration

none_said : (changes : List Entry) → NoneOwn changes → (t : Transaction) → OpensIn t changes → is_server t.state ≡ false → SaysDialog t.parts
none_said changes none t opens client = absurd (none t opens client)

plan_sounds : (s : Office) → KnowsDialogs s → (p : Plan) → NoneOwn p.changes → IsBoundPlan p.registration → Sounds s (of_plan s p)
plan_sounds s k p none bound = record { began = none_said p.changes none; calls = k.calls; registered = bound }

step_sounds : (s : Office) (begun : List Entry) (send : Option Outgoing) (id : Option ℕ) (x : steps.Effect) → NoneOwn begun → SoundStep x → Sounds s (with_step s.acks begun send id x)
step_sounds s begun send id x none sound = record {
  began = λ t opens client. elim (opens_split t begun x.dressed.changes opens) [ inl h ↦ absurd (none t h client) | inr h ↦ sound.began t h ];
  calls = sound.calls;
  registered = tt;
}

-- a dialog is put beside a call
put_sounds : (s : Office) → KnowsDialogs s → (p : Plan) (place : ℕ) (leg : Option LegDialog) → NoneOwn p.changes → IsSoundPut leg
    → IsBoundPlan p.registration → Sounds s (record { plan = p; calls = unchanged (puts_if s.calls place leg); acks = s.acks })
put_sounds s k p place leg none sound bound = record { began = none_said p.changes none; calls = puts_sound s.calls place leg sound k.calls; registered = bound }

takes_sounds : (s : Office) → KnowsDialogs s → (e : Setting) (begun : List Entry) (send : Option Outgoing) (id : Option ℕ) (place : ℕ) (input : Input) (leg : Option LegDialog) → NoneOwn begun → IsSoundPut leg
    → Sounds s (takes s e begun send id place input leg)
takes_sounds s k e begun send id place input leg none sound = step_sounds s begun send id _ none (takes_sound s.calls s.table (occasion s e) place input leg None k.requests k.calls sound)

asked_sounds : (s : Office) → KnowsDialogs s → (e : Setting) (r : Request) (begun : List Entry) (id place : ℕ) (input : Input) (leg : Option LegDialog) (tag : List ℕ) → NoneOwn begun → IsSoundPut leg
    → Sounds s (takes_request s e r begun id place input leg tag)
asked_sounds s k e r begun id place input leg tag none sound = step_sounds s begun None None _ none (takes_sound s.calls s.table (occasion s e) place input leg _ k.requests k.calls sound)

-- the same calls and transactions
stopped_knows : (s : Office) → KnowsDialogs s → (timer : _) → KnowsDialogs (without_call_timer timer s)
stopped_knows s k timer = record { server = k.server; bindings = k.bindings; requests = k.requests; calls = k.calls }

-- ---- the rows

request_sounds : Reading → (s : Office) → KnowsDialogs s → s.tokens < 2 ^ 63 → (e : Setting) (text : List ℕ) (r : Request) (begun : List Entry) (id : ℕ) (x : Effect) → message_of text ≡ Ok (Kinds.Request r) → NoneOwn begun
    → RequestRow s e r begun id x → Sounds s x
request_sounds reading s k few e text r begun id x read none (replied reply why is) =
    subst (Sounds s) (sym is) (plan_sounds s k (reply_row s e r begun id reply) (reply_none begun id _ (row_reply s e r begun id reply) none) (reply_bound reading s e r begun id reply k.bindings))
request_sounds reading s k few e text r begun id x read none (unfit reason is) =
    subst (Sounds s) (sym is) (plan_sounds s k (refuses_for s e r begun id reason) (reply_none begun id _ (refuses_reply s e r begun id reason) none) tt)
request_sounds reading s k few e text r begun id x read none (asks_callee to offer why is) =
    subst (Sounds s) (sym is) (step_sounds s begun None None _ none (first_sound reading s.calls (occasion s e) text r id e.source to offer read why.reached k.server few k.calls))
request_sounds reading s k few e text r begun id x read none (cancelled other place named_is found is) = subst (Sounds s) (sym is) (asked_sounds s k e r begun id place inputs.Cancel None _ none tt)
request_sounds reading s k few e text r begun id x read none (left place end rule_is is) =
    subst (Sounds s) (sym is) (asked_sounds s k e r begun id place (inputs.Bye end) _ _ none (counts_sound s.calls.calls place end r.parts.cseq.number k.calls))
request_sounds reading s k few e text r begun id x read none (counted_alone place end reason why is) =
    subst (Sounds s) (sym is) (
    put_sounds s k (refuses_for s e r begun id reason) place (counts s.calls.calls place end r.parts.cseq.number) (reply_none begun id _ (refuses_reply s e r begun id reason) none)
    (counts_sound s.calls.calls place end r.parts.cseq.number k.calls) tt
    )
request_sounds reading s k few e text r begun id x read none (passed_on place end c offer rule_is why is) =
    let target : IsTargetIf (reached_at (contacts_of r.headers)) =
    reached_target reading r.parts r.headers (offers_may_offer s.calls.calls r place end rule_is) (offer_reached r end c.call why.passes) in
    subst (Sounds s) (sym is) (step_sounds s begun None None _ none (offers_sound s.calls s.table (occasion s e) place _ end r id e.source k.requests k.calls target))
request_sounds reading s k few e text r begun id x read none (refreshed place end why is) =
    let target : IsTargetIf (reached_at (contacts_of r.headers)) =
    reached_target reading r.parts r.headers (plain_may_offer text s.calls.calls r place end (reading.message text (Kinds.Request r) read) why.rule why.inside)
    (plain_reached r end why.call.call why.passes) in
    subst (Sounds s) (sym is) (
    put_sounds s k (okay_plan s e r begun id) place (refreshes s.calls.calls place end r) (reply_none begun id _ (okay_reply s e r begun id) none)
    (refreshes_sound s.calls.calls place end r target k.calls) tt
    )

response_sounds : Reading → (s : Office) → KnowsDialogs s → (e : Setting) (text : List ℕ) (r : Response) (begun : List Entry) (send : Option Outgoing) (id : ℕ) (t : Transaction) (x : Effect)
    → message_of text ≡ Ok (Kinds.Response r) → is_unreachable_message (Kinds.Response r) ≡ false → IsResponseTo s r id t → NoneOwn begun → ResponseRow s e r begun send id t x → Sounds s x
response_sounds reading s k e text r begun send id t x read reached to none (silent is) = subst (Sounds s) (sym is) (plan_sounds s k (moves begun send) none tt)
response_sounds reading s k e text r begun send id t x read reached to none (provisional place status c there asked class at_status is) =
    subst (Sounds s) (sym is) (takes_sounds s k e begun send None place (inputs.Provisional status) None none tt)
response_sounds reading s k e text r begun send id t x read reached to none (answered place c there asked class is) =
    let says : SaysDialog t.parts = k.requests id t to.there (answered_client r.parts t to.answers) in
    let target : IsTargetIf (reached_at (contacts_of r.headers)) =
    reached_target reading r.parts r.headers (response_may_offer r.parts t to.answers asked.offers) (response_reached r reached class) in
    subst (Sounds s) (sym is) (
    takes_sounds s k e begun send (Some id) place (inputs.Answer (described r.headers r.body)) (answers_leg s.calls.calls place t.parts r) none
    (answers_sound reading text t.parts r s.calls.calls place read says target k.calls)
    )
response_sounds reading s k e text r begun send id t x read reached to none (again place acked is) = subst (Sounds s) (sym is) (plan_sounds s k (acks_again s begun id) none tt)
response_sounds reading s k e text r begun send id t x read reached to none (fork why is) =
    subst (Sounds s) (sym is) (step_sounds s begun send None _ none (fork_sound s.calls (occasion s e) t.parts r (k.requests id t to.there (answered_client r.parts t to.answers)) k.calls))
response_sounds reading s k e text r begun send id t x read reached to none (ack_alone is) =
    subst (Sounds s) (sym is) (step_sounds s begun send None _ none (late_sound s.calls (occasion s e) t.parts r (k.requests id t to.there (answered_client r.parts t to.answers)) k.calls))
response_sounds reading s k e text r begun send id t x read reached to none (refused place status c there asked class at_status is) =
    subst (Sounds s) (sym is) (takes_sounds s k e begun send None place (inputs.Refusal status) None none tt)

message_sounds : Reading → (s : Office) → KnowsDialogs s → s.tokens < 2 ^ 63 → (e : Setting) (text : List ℕ) (m : Message) (send : Option Outgoing) (x : Effect) → message_of text ≡ Ok m
    → is_unreachable_message m ≡ false → MessageRow s e m (begun_by s e m) send x → Sounds s x
message_sounds reading s k few e text m send x read reached (dropped taken is) = subst (Sounds s) (sym is) (plan_sounds s k (nothing taken) (λ t opens client. opens) tt)
message_sounds reading s k few e text m send x read reached (moved is) = subst (Sounds s) (sym is) (plan_sounds s k (moves (begun_by s e m) send) (change_none s m e.source) tt)
message_sounds reading s k few e text m send x read reached (requested r id is new row) =
    request_sounds reading s k few e text r (begun_by s e m) id x (subst (λ y. message_of text ≡ Ok y) is read) (change_none s m e.source) row
message_sounds reading s k few e text m send x read reached (acknowledged r place is found row_is) =
    subst (Sounds s) (sym row_is) (takes_sounds s k e (begun_by s e m) None None place inputs.Ack None (change_none s m e.source) tt)
message_sounds reading s k few e text m send x read reached (responded r id t is up to row) =
    response_sounds reading s k e text r (begun_by s e m) send id t x (subst (λ y. message_of text ≡ Ok y) is read) (subst (λ y. is_unreachable_message y ≡ false) is reached) to (change_none s m e.source) row

datagram_sounds : Reading → (s : Office) → KnowsDialogs s → s.tokens < 2 ^ 63 → (e : Setting) (bytes : List ℕ) (x : Effect) → DatagramRow s e bytes x → Sounds s x
datagram_sounds reading s k few e bytes x (ignored taken is) = subst (Sounds s) (sym is) (plan_sounds s k (nothing taken) (λ t opens client. opens) tt)
datagram_sounds reading s k few e bytes x (unreadable fault parts unread can is) = subst (Sounds s) (sym is) (plan_sounds s k _ (λ t opens client. opens) tt)
datagram_sounds reading s k few e bytes x (unfit_branched r read is) = subst (Sounds s) (sym is) (plan_sounds s k _ (λ t opens client. opens) tt)
datagram_sounds reading s k few e bytes x (was_received m read branch reached row) = message_sounds reading s k few e bytes m _ x read reached row

-- ---- what is due

due_sounds : (s : Office) → KnowsDialogs s → (e : Setting) (x : Effect) → DueRow s e x → Sounds s x
due_sounds s k e x (idle is) = subst (Sounds s) (sym is) (plan_sounds s k _ (λ t opens client. opens) tt)
due_sounds s k e x (listed users is) = subst (Sounds s) (sym is) (plan_sounds s k _ (λ t opens client. opens) (kept_bound s.registrar.entries users k.bindings))
due_sounds s k e x (sent_again timer out fired is) = subst (Sounds s) (sym is) (plan_sounds s k (moves (fire_of timer ∷ []) (Some out)) (λ t opens client. opens) tt)
due_sounds s k e x (fired_alone timer fired is) = subst (Sounds s) (sym is) (plan_sounds s k (moves (fire_of timer ∷ []) None) (λ t opens client. opens) tt)
due_sounds s k e x (timed timer t place fired times there found is) = subst (Sounds s) (sym is) (takes_sounds s k e (fire_of timer ∷ []) None None place inputs.TimedOut None (λ t opens client. opens) tt)
due_sounds s k e x (ended timer fired is) = subst (Sounds s) (sym is) (record { began = none_said (fire_of timer ∷ []) (λ t opens client. opens); calls = k.calls; registered = tt })
due_sounds s k e x (stopped timer is) =
    let sound = plan_sounds (without_call_timer timer s) (stopped_knows s k timer) (moves [] None) (λ t opens client. opens) tt in
    subst (Sounds s) (sym is) (record { began = sound.began; calls = sound.calls; registered = tt })
due_sounds s k e x (call_fired timer place found is) =
    let sound = takes_sounds (without_call_timer timer s) (stopped_knows s k timer) e [] None None place (timer_input timer.timer) None (λ t opens client. opens) tt in
    subst (Sounds s) (sym is) (record { began = sound.began; calls = sound.calls; registered = tt })

what_sounds : Reading → (s : Office) → KnowsDialogs s → s.tokens < 2 ^ 63 → (now salt : ℕ) (what : What) (x : Effect) → WhatRow s now salt what x → Sounds s x
what_sounds reading s k few now salt what x (came source bytes is row) = datagram_sounds reading s k few (setting now salt source) bytes x row
what_sounds reading s k few now salt what x (due is row) = due_sounds s k (setting now salt no_source) x row

-- ---- an event

event_sounds : Reading → (s : Contents) → KnowsDialogs (office s) → (e : Event) (taken : Option Taken) → only_counts s e ≡ taken → Sounds (office s) (row_by s e taken)
event_sounds reading s k e (Some taken) is = record { began = none_said [] (λ t opens client. opens); calls = k.calls; registered = tt }
event_sounds reading s k e None is =
    what_sounds reading (office s) k (few_tokens s e is) (moment_at s e.now) e.salt e.what (what_row (office s) (moment_at s e.now) e.salt e.what) (what_view (office s) (moment_at s e.now) e.salt e.what)

row_sounds : Reading → (s : Contents) → KnowsDialogs (office s) → (e : Event) → Sounds (office s) (row s e)
unfolding row
row_sounds reading s k e = event_sounds reading s k e (only_counts s e) refl

said_by : (s : Contents) → KnowsDialogs (office s) → (x : Effect) → Sounds (office s) x → (id : ℕ) (u : Transaction) → is_server u.state ≡ false → CameFrom s.table.slots x.plan.changes id u → SaysDialog u.parts
said_by s k x sound id u client (stayed t there later) = subst SaysDialog (sym later.parts) (k.requests id t there (sym later.side ∙ client))
said_by s k x sound id u client (began t opens later) = subst SaysDialog (sym later.parts) (sound.began t opens (sym later.side ∙ client))

registered_bound : (r : registrar.Contents) (change : Option RegistrarChange) → IsBoundPlan change → ((user : List ℕ) → All IsBound (bindings_of r.entries user))
    → (user : List ℕ) → All IsBound (bindings_of (registered_by r change).entries user)
registered_bound r None bound each user = each user
registered_bound r (Some (Binds plan)) bound each user = entries_bound plan.user plan.bindings r.entries user bound (each user)
registered_bound r (Some (Lists listing)) bound each user = bound user

knows_by : (s : Contents) → KnowsDialogs (office s) → (now : ℕ) (x : Effect) → Sounds (office s) x → KnowsDialogs (office (after_event s now x))
unfolding after_event
knows_by s k now x sound = record {
  server = k.server;
  bindings = registered_bound s.registrar x.plan.registration sound.registered k.bindings;
  requests = λ id u there client. said_by s k x sound id u client (all_came now s.table x.plan.changes id u there);
  calls = sound.calls;
}

pub after_dialogs : Reading → (s : Contents) (e : Event) → KnowsDialogs (office s) → KnowsDialogs (office (after s e))
after_dialogs reading s e k = knows_by s k (moment_after s e) (row s e) (row_sounds reading s k e)

pub new_dialogs : (c : Config) (s : Contents) → IsNew c s → HasOctets c.ip → KnowsDialogs (office s)
new_dialogs c s new octets = record {
  server = subst (λ server. HasOctets server.ip) (sym new.server) octets;
  bindings = λ user. subst (All IsBound) (sym (new.registers.each user)) (All-nil IsBound);
  requests = λ id t there. absurd (none_at s.table.slots id t new.slots there);
  calls = subst (All HasSoundLegs) (sym new.calls) (All-nil HasSoundLegs);
}

pub answer_dialogs : Reading → (s : Contents) (e : Event) (taken : Option Taken) → KnowsDialogs (office s) → KnowsDialogs (office (after_answer s e taken))
answer_dialogs reading s e None k = k
answer_dialogs reading s e (Some taken) k = after_dialogs reading s e k

list_dialogs : Reading → (s : Contents) (xs : List TraceEntry) → KnowsDialogs (office s) → KnowsDialogs (office (after_entries s xs))
list_dialogs reading s [] k = k
list_dialogs reading s (x ∷ xs) k = list_dialogs reading (after_entry s x) xs (answer_dialogs reading s x.event x.answer k)

pub known_dialogs : Reading → (c : Config) (s : Contents) (xs : List TraceEntry) → IsNew c s → HasOctets c.ip → KnowsDialogs (office (after_entries s xs))
known_dialogs reading c s xs new octets = list_dialogs reading s xs (new_dialogs c s new octets)

pub known_target : (s : Contents) (user : List ℕ) (now : ℕ) (uri : Uri) → KnowsDialogs (office s) → target_of (bindings_at s.registrar user now) ≡ Some uri → IsTarget uri
known_target s user now uri k is = bound_target s.registrar user now uri (k.bindings user) is

-- ---- where the callee of a first INVITE is bound

bound_by : (s : Office) → KnowsDialogs s → (now : ℕ) (user : Option (List ℕ)) (to : Uri) → target_by s now user ≡ Some to → IsTarget to
bound_by s k now None to h = absurd (none-some to h)
bound_by s k now (Some user) to h = bound_target s.registrar user now to (k.bindings user) h

pub callee_target : (s : Office) → KnowsDialogs s → (r : Request) (now : ℕ) (to : Uri) → target s r now ≡ Some to → IsTarget to
callee_target s k r now to h = bound_by s k now (user_of (rules_of s.registrar) r.uri) to h

-- the leg in which it is passed on
first_sound_leg : (o : Occasion) (r : Request) (contact to : Uri) → HasOctets o.server.ip → o.tokens < 2 ^ 63 → IsSound (callees_dialog r (fresh o 1) contact) → IsTarget to → IsSoundLeg (first_leg o r to)
unfolding new_leg
first_sound_leg o r contact to octets few caller is =
    let ends = first_ends o r contact to octets few caller in
    record {
      sound = record {
        call_id = ends.call_id;
        call_id_value = ends.call_id_value;
        our_tag = ends.our_tag;
        their_tag = refl;
        ours = ends.ours;
        theirs = ends.theirs;
        target = is.read;
      };
      leads = is.leads;
    }

pub known_leg : Reading → (s : Office) (e : Setting) (text : List ℕ) (r : Request) (contact to : Uri) → KnowsDialogs s → s.tokens < 2 ^ 63 → message_of text ≡ Ok (Kinds.Request r)
    → reached_at (contacts_of r.headers) ≡ Some contact → target s r e.now ≡ Some to → IsSoundLeg (first_leg (occasion s e) r to)
known_leg reading s e text r contact to k few read at_contact bound =
    let o = occasion s e in
    let caller = reading.callee text r (fresh o 1) contact (reading.message text (Kinds.Request r) read) (token_run e.salt (s.tokens + 1) (omega (arith, few))) at_contact in
    first_sound_leg o r contact to k.server few caller (callee_target s k r e.now to bound)
