-- What each event results in: the requests of the server's own that begin are of values that were read, and no dialog
-- of a call counts too far.
use Rattle.std.proofs.Common.{◌<◌, ◌^◌, ◌≡◌, ◌∙◌, ℕ, true, false, List, [], ◌∷◌, Option, Some, None, Ok, refl, sym, subst, inl, inr}
use Rattle.std.specs.Prelude.{slice_get}
use Rattle.std.specs.List.{All}
use Rattle.std.proofs.lemmas.List.Elements.{All-nil}
use Rattle.std.proofs.lemmas.Option.{same_Some}
use Rattle.configuration.specs.declared.config.Config.{Config}
use Rattle.sip_message.specs.Contact.{contacts_of}
use Rattle.sip_message.specs.Read.{message_of}
use Rattle.sip_message.specs.declared.message.Message.{Message}
use Rattle.sip_message.specs.declared.message.Message.TheVariants as Kinds
use Rattle.sip_message.specs.declared.message.Request.{Request}
use Rattle.sip_message.specs.declared.message.Response.{Response}
use Rattle.dialogs.specs.Making.{reached_at}
use Rattle.events.specs.declared.event.Event.{Event}
use Rattle.events.specs.declared.event.What.{What}
use Rattle.transactions.specs.Changes.{fire_of}
use Rattle.transactions.specs.declared.change.Entry.{Entry}
use Rattle.transactions.specs.declared.outcome.Outgoing.{Outgoing}
use Rattle.transactions.specs.declared.transaction.Transaction.{Transaction}
use Rattle.call_media.specs.Ends.{other}
use Rattle.call_media.specs.declared.end.End.{End}
use Rattle.call_core.specs.Calls.{dialog_of, has_number_left}
use Rattle.call_core.specs.declared.action.CallTimer.{CallTimer}
use Rattle.call_core.specs.declared.action.CallTimer.TheVariants as timers
use Rattle.call_core.specs.declared.input.Input.{Input}
use Rattle.call_core.specs.declared.input.Input.TheVariants as inputs
use Rattle.calls.specs.Changes.{unchanged}
use Rattle.calls.specs.declared.change.LegDialog.{LegDialog}
use Rattle.calls.specs.declared.standing_call.StandingCall.{StandingCall}
use Rattle.call_rules.specs.Content.{described}
use Rattle.call_steps.specs.Effects as steps
use Rattle.call_steps.specs.Rows.{answers_leg, counts, refreshes}
use Rattle.plans.specs.CallRows.{acks_again, occasion, of_plan, okay_plan, puts_if, takes, takes_request, timer_input, with_step, without_call_timer}
use Rattle.plans.specs.Effect.{Effect}
use Rattle.plans.specs.Office.{Office}
use Rattle.plans.specs.Plan.{Plan, moves, nothing}
use Rattle.plans.specs.Replies.{refuses_for, reply_row}
use Rattle.plans.specs.declared.setting.Setting.{Setting}
use Rattle.plans.specs.declared.taken.Taken.{Taken}
use Rattle.event_rows.specs.Rows.{after, is_unreachable_message, moment_after, no_source, only_counts, row, row_by, setting, what_row}
use Rattle.event_rows.specs.State.{Contents, IsNew, after_event, moment_at, office}
use Rattle.event_rows.specs.Trace.{Entry as TraceEntry, after_answer, after_entries, after_entry}
use Rattle.message_laws.specs.Addresses.{IsConfigured, IsReached}
use Rattle.message_laws.specs.Sound.{IsTargetIf, KnowsDialogs, SaysDialog}
use Rattle.message_laws.proofs.AwaitedOffers.Coming.{OpensIn}
use Rattle.message_laws.proofs.TokenUse.Events.{few_tokens}
use Rattle.message_laws.proofs.Messages.MessageViews.{IsResponseTo, MessageRow, acknowledged, begun_by, dropped, moved, requested, responded}
use Rattle.message_laws.proofs.AwaitedOffers.Offering.{opens_split}
use Rattle.message_laws.proofs.AwaitedOffers.Once.{NoneOwn}
use Rattle.message_laws.proofs.StandingCalls.Reaching.{response_may_offer, response_reached}
use Rattle.message_laws.proofs.StandingCalls.Reading.{Reading, reached_target}
use Rattle.message_laws.proofs.Messages.Replying.{okay_reply, refuses_reply, row_reply}
use Rattle.message_laws.proofs.Messages.RequestViews.{RequestRow, asks_callee, cancelled, counted_alone, left, passed_on, refreshed, replied, unfit}
use Rattle.message_laws.proofs.Messages.ResponseViews.{ResponseRow, ack_alone, again, answered, fork, provisional, refused, silent}
use Rattle.message_laws.proofs.TokenUse.Rows.{answered_client}
use Rattle.message_laws.proofs.StandingCalls.SoundCalls.{IsSoundPut, counts_sound}
use Rattle.message_laws.proofs.StandingCalls.SoundRows.{after_dialogs, known_leg, new_dialogs}
use Rattle.message_laws.proofs.StandingCalls.SoundSteps.{answers_sound}
use Rattle.message_laws.proofs.Messages.Views.{DatagramRow, DueRow, WhatRow, call_fired, came, due, ended, fired_alone, idle, listed, ignored, sent_again, stopped, timed, unfit_branched, unreadable, was_received, what_view}
use Rattle.message_laws.proofs.AwaitedOffers.WaitEffects.{reply_none}
use Rattle.message_laws.proofs.AwaitedOffers.WaitRows.{change_none}
use Rattle.message_laws.specs.SoundClients.{HasLowNumbers, IsSoundClient, IsSoundClientIf, KnowsClients}
use Rattle.message_laws.specs.SoundScenes.{IsSoundRequest}
use Rattle.message_laws.proofs.StandingCalls.ClientSlots.{client_at, entered_sound}
use Rattle.message_laws.proofs.StandingCalls.ClientSteps.{AreKnown, ClientStep, first_asks, fork_asks, fork_can, late_asks, late_can, offers_asks, takes_asks}
use Rattle.message_laws.proofs.StandingCalls.LowCalls.{IsLowPut, answers_low, counts_low, puts_low, refreshes_low}
use Rattle.message_laws.proofs.StandingCalls.LowNumbers.{HasNumberFor}

-- ---- an effect

pub record ClientRow (s : Office) (x : Effect) : Type 0 where
  pub began : (t : Transaction) → OpensIn t x.plan.changes → IsSoundClient t
  pub calls : All HasLowNumbers x.calls.standing.calls

-- what is known before it
pub record IsKnown (s : Office) : Type 0 where
  pub dialogs : KnowsDialogs s
  pub clients : KnowsClients s

pub are_known : (s : Office) → IsKnown s → AreKnown s.table s.calls.calls
are_known s k = record { slots = k.clients.slots; legs = k.dialogs.calls; low = k.clients.calls }

none_began : (changes : List Entry) → NoneOwn changes → (t : Transaction) → OpensIn t changes → IsSoundClient t
none_began changes none t opens client = absurd (none t opens client)

plan_row : (s : Office) → IsKnown s → (p : Plan) → NoneOwn p.changes → ClientRow s (of_plan s p)
plan_row s k p none = record { began = none_began p.changes none; calls = k.clients.calls }

step_row : (s : Office) (begun : List Entry) (send : Option Outgoing) (id : Option ℕ) (x : steps.Effect) → NoneOwn begun → ClientStep x → ClientRow s (with_step s.acks begun send id x)
step_row s begun send id x none step = record {
  began = λ t opens client. elim (opens_split t begun x.dressed.changes opens) [ inl h ↦ absurd (none t h client) | inr h ↦ step.began t h ];
  calls = step.calls;
}

put_row : (s : Office) → IsKnown s → (p : Plan) (place : ℕ) (leg : Option LegDialog) → NoneOwn p.changes → IsLowPut leg → ClientRow s (record { plan = p; calls = unchanged (puts_if s.calls place leg); acks = s.acks })
put_row s k p place leg none low = record { began = none_began p.changes none; calls = puts_low s.calls place leg low k.clients.calls }

-- no offer comes
abbrev IsNoOffer : Input → Type 0
IsNoOffer input = (c : StandingCall) → HasNumberFor c.call input

takes_with_row : (s : Office) → IsKnown s → (e : Setting) (begun : List Entry) (send : Option Outgoing) (id : Option ℕ) (place : ℕ) (input : Input) (leg : Option LegDialog) → NoneOwn begun → IsSoundPut leg → IsLowPut leg
    → IsNoOffer input → ClientRow s (takes s e begun send id place input leg)
takes_with_row s k e begun send id place input leg none sound low no_offer =
    step_row s begun send id _ none (takes_asks s.calls s.table (occasion s e) place input leg None k.clients.server (are_known s k) sound low no_offer)

asked_row : (s : Office) → IsKnown s → (e : Setting) (r : Request) (begun : List Entry) (id place : ℕ) (input : Input) (leg : Option LegDialog) (tag : List ℕ) → NoneOwn begun → IsSoundPut leg → IsLowPut leg
    → IsNoOffer input → ClientRow s (takes_request s e r begun id place input leg tag)
asked_row s k e r begun id place input leg tag none sound low no_offer =
    step_row s begun None None _ none (takes_asks s.calls s.table (occasion s e) place input leg _ k.clients.server (are_known s k) sound low no_offer)

pub stopped_known : (s : Office) → IsKnown s → (timer : _) → IsKnown (without_call_timer timer s)
stopped_known s k timer = record {
  dialogs = record { server = k.dialogs.server; bindings = k.dialogs.bindings; requests = k.dialogs.requests; calls = k.dialogs.calls };
  clients = record { server = k.clients.server; slots = k.clients.slots; calls = k.clients.calls };
}

-- ---- a request

pub number_for : (c d : StandingCall) (calls : List StandingCall) (place : ℕ) (end : End) → slice_get calls place ≡ Some c → slice_get calls place ≡ Some d → has_number_left (dialog_of (other end) c.call) ≡ true
    → has_number_left (dialog_of (other end) d.call) ≡ true
number_for c d calls place end there also h = subst (λ (x : StandingCall). has_number_left (dialog_of (other end) x.call) ≡ true) (same_Some c d (sym there ∙ also)) h

request_row : Reading → (s : Office) → IsKnown s → s.tokens < 2 ^ 63 → (e : Setting) (text : List ℕ) (r : Request) (begun : List Entry) (id : ℕ) (x : Effect) → message_of text ≡ Ok (Kinds.Request r) → NoneOwn begun
    → RequestRow s e r begun id x → ClientRow s x
request_row reading s k few e text r begun id x read none (replied reply why is) =
    subst (ClientRow s) (sym is) (plan_row s k (reply_row s e r begun id reply) (reply_none begun id _ (row_reply s e r begun id reply) none))
request_row reading s k few e text r begun id x read none (unfit reason is) =
    subst (ClientRow s) (sym is) (plan_row s k (refuses_for s e r begun id reason) (reply_none begun id _ (refuses_reply s e r begun id reason) none))
request_row reading s k few e text r begun id x read none (asks_callee to offer why is) =
    subst (ClientRow s) (sym is) (step_row s begun None None _ none (first_asks s.calls (occasion s e) r id e.source to offer k.clients.server k.clients.calls
    (λ contact at_contact. known_leg reading s e text r contact to k.dialogs few read at_contact why.bound)))
request_row reading s k few e text r begun id x read none (cancelled named_id place named_is found is) =
    subst (ClientRow s) (sym is) (asked_row s k e r begun id place inputs.Cancel None _ none tt tt (λ c. tt))
request_row reading s k few e text r begun id x read none (left place end rule_is is) =
    subst (ClientRow s) (sym is) (asked_row s k e r begun id place (inputs.Bye end) _ _ none (counts_sound s.calls.calls place end r.parts.cseq.number k.dialogs.calls)
    (counts_low s.calls.calls place end r.parts.cseq.number k.clients.calls) (λ c. tt))
request_row reading s k few e text r begun id x read none (counted_alone place end reason why is) =
    subst (ClientRow s) (sym is) (put_row s k (refuses_for s e r begun id reason) place (counts s.calls.calls place end r.parts.cseq.number) (reply_none begun id _ (refuses_reply s e r begun id reason) none)
    (counts_low s.calls.calls place end r.parts.cseq.number k.clients.calls))
request_row reading s k few e text r begun id x read none (passed_on place end c offer rule_is why is) =
    subst (ClientRow s) (sym is) (step_row s begun None None _ none (offers_asks s.calls s.table (occasion s e) place _ end r id e.source k.clients.server (are_known s k)
    (λ d there. number_for c d s.calls.calls place end why.there there why.numbered)))
request_row reading s k few e text r begun id x read none (refreshed place end why is) =
    subst (ClientRow s) (sym is) (put_row s k (okay_plan s e r begun id) place (refreshes s.calls.calls place end r) (reply_none begun id _ (okay_reply s e r begun id) none)
    (refreshes_low s.calls.calls place end r k.clients.calls))

-- ---- a response

-- the request that it answers
pub asked_sound : (s : Office) → IsKnown s → (r : Response) (id : ℕ) (t : Transaction) → IsResponseTo s r id t → IsSoundRequest t.uri t.parts
asked_sound s k r id t to = client_at s.table.slots id t k.clients.slots to.there (answered_client r.parts t to.answers)

pub asked_says : (s : Office) → IsKnown s → (r : Response) (id : ℕ) (t : Transaction) → IsResponseTo s r id t → SaysDialog t.parts
asked_says s k r id t to = k.dialogs.requests id t to.there (answered_client r.parts t to.answers)

response_row : Reading → (s : Office) → IsKnown s → (e : Setting) (text : List ℕ) (r : Response) (begun : List Entry) (send : Option Outgoing) (id : ℕ) (t : Transaction) (x : Effect)
    → message_of text ≡ Ok (Kinds.Response r) → is_unreachable_message (Kinds.Response r) ≡ false → IsResponseTo s r id t → NoneOwn begun → ResponseRow s e r begun send id t x → ClientRow s x
response_row reading s k e text r begun send id t x read reached to none (silent is) = subst (ClientRow s) (sym is) (plan_row s k (moves begun send) none)
response_row reading s k e text r begun send id t x read reached to none (provisional place status c there asked class at_status is) =
    subst (ClientRow s) (sym is) (takes_with_row s k e begun send None place (inputs.Provisional status) None none tt tt (λ d. tt))
response_row reading s k e text r begun send id t x read reached to none (answered place c there asked class is) =
    let target : IsTargetIf (reached_at (contacts_of r.headers)) =
    reached_target reading r.parts r.headers (response_may_offer r.parts t to.answers asked.offers) (response_reached r reached class) in
    subst (ClientRow s) (sym is) (
    takes_with_row s k e begun send (Some id) place (inputs.Answer (described r.headers r.body)) (answers_leg s.calls.calls place t.parts r) none
    (answers_sound reading text t.parts r s.calls.calls place read (asked_says s k r id t to) target k.dialogs.calls)
    (answers_low t.parts r s.calls.calls place (asked_sound s k r id t to).values.number k.clients.calls) (λ d. tt)
    )
response_row reading s k e text r begun send id t x read reached to none (again place acked is) = subst (ClientRow s) (sym is) (plan_row s k (acks_again s begun id) none)
response_row reading s k e text r begun send id t x read reached to none (fork why is) =
    subst (ClientRow s) (sym is) (step_row s begun send None _ none (fork_asks s.calls (occasion s e) t.parts r k.clients.server k.clients.calls
    (λ target at_target. fork_can reading text t.uri t.parts r target read (asked_says s k r id t to) (asked_sound s k r id t to) at_target)))
response_row reading s k e text r begun send id t x read reached to none (ack_alone is) =
    subst (ClientRow s) (sym is) (step_row s begun send None _ none (late_asks s.calls (occasion s e) t.parts r k.clients.server k.clients.calls
    (λ target at_target. late_can reading text t.uri t.parts r target read (asked_says s k r id t to) (asked_sound s k r id t to) at_target)))
response_row reading s k e text r begun send id t x read reached to none (refused place status c there asked class at_status is) =
    subst (ClientRow s) (sym is) (takes_with_row s k e begun send None place (inputs.Refusal status) None none tt tt (λ d. tt))

-- ---- a message, and a datagram

message_row : Reading → (s : Office) → IsKnown s → s.tokens < 2 ^ 63 → (e : Setting) (text : List ℕ) (m : Message) (send : Option Outgoing) (x : Effect) → message_of text ≡ Ok m
    → is_unreachable_message m ≡ false → MessageRow s e m (begun_by s e m) send x → ClientRow s x
message_row reading s k few e text m send x read reached (dropped taken is) = subst (ClientRow s) (sym is) (plan_row s k (nothing taken) (λ t opens client. opens))
message_row reading s k few e text m send x read reached (moved is) = subst (ClientRow s) (sym is) (plan_row s k (moves (begun_by s e m) send) (change_none s m e.source))
message_row reading s k few e text m send x read reached (requested r id is new view) =
    request_row reading s k few e text r (begun_by s e m) id x (subst (λ y. message_of text ≡ Ok y) is read) (change_none s m e.source) view
message_row reading s k few e text m send x read reached (acknowledged r place is found row_is) =
    subst (ClientRow s) (sym row_is) (takes_with_row s k e (begun_by s e m) None None place inputs.Ack None (change_none s m e.source) tt tt (λ c. tt))
message_row reading s k few e text m send x read reached (responded r id t is up to view) =
    response_row reading s k e text r (begun_by s e m) send id t x (subst (λ y. message_of text ≡ Ok y) is read) (subst (λ y. is_unreachable_message y ≡ false) is reached) to (change_none s m e.source) view

datagram_row : Reading → (s : Office) → IsKnown s → s.tokens < 2 ^ 63 → (e : Setting) (bytes : List ℕ) (x : Effect) → DatagramRow s e bytes x → ClientRow s x
datagram_row reading s k few e bytes x (ignored taken is) = subst (ClientRow s) (sym is) (plan_row s k (nothing taken) (λ t opens client. opens))
datagram_row reading s k few e bytes x (unreadable fault parts unread can is) = subst (ClientRow s) (sym is) (plan_row s k _ (λ t opens client. opens))
datagram_row reading s k few e bytes x (unfit_branched r read is) = subst (ClientRow s) (sym is) (plan_row s k _ (λ t opens client. opens))
datagram_row reading s k few e bytes x (was_received m read branch reached view) = message_row reading s k few e bytes m _ x read reached view

-- ---- what is due

timer_no_offer : (timer : CallTimer) → IsNoOffer (timer_input timer)
timer_no_offer timers.Limit c = tt
timer_no_offer timers.Repeat c = tt
timer_no_offer timers.Wait c = tt
timer_no_offer timers.Lifetime c = tt

due_row : (s : Office) → IsKnown s → (e : Setting) (x : Effect) → DueRow s e x → ClientRow s x
due_row s k e x (idle is) = subst (ClientRow s) (sym is) (plan_row s k _ (λ t opens client. opens))
due_row s k e x (listed users is) = subst (ClientRow s) (sym is) (plan_row s k _ (λ t opens client. opens))
due_row s k e x (sent_again timer out fired is) = subst (ClientRow s) (sym is) (plan_row s k (moves (fire_of timer ∷ []) (Some out)) (λ t opens client. opens))
due_row s k e x (fired_alone timer fired is) = subst (ClientRow s) (sym is) (plan_row s k (moves (fire_of timer ∷ []) None) (λ t opens client. opens))
due_row s k e x (timed timer t place fired times there found is) =
    subst (ClientRow s) (sym is) (takes_with_row s k e (fire_of timer ∷ []) None None place inputs.TimedOut None (λ t opens client. opens) tt tt (λ c. tt))
due_row s k e x (ended timer fired is) = subst (ClientRow s) (sym is) (record { began = none_began (fire_of timer ∷ []) (λ t opens client. opens); calls = k.clients.calls })
due_row s k e x (stopped timer is) = subst (ClientRow s) (sym is) (record { began = none_began [] (λ t opens client. opens); calls = k.clients.calls })
due_row s k e x (call_fired timer place found is) =
    let step = takes_with_row (without_call_timer timer s) (stopped_known s k timer) e [] None None place (timer_input timer.timer) None (λ t opens client. opens) tt tt (timer_no_offer timer.timer) in
    subst (ClientRow s) (sym is) (record { began = step.began; calls = step.calls })

what_client_row : Reading → (s : Office) → IsKnown s → s.tokens < 2 ^ 63 → (now salt : ℕ) (what : What) (x : Effect) → WhatRow s now salt what x → ClientRow s x
what_client_row reading s k few now salt what x (came source bytes is view) = datagram_row reading s k few (setting now salt source) bytes x view
what_client_row reading s k few now salt what x (due is view) = due_row s k (setting now salt no_source) x view

-- ---- an event

event_row : Reading → (s : Contents) → IsKnown (office s) → (e : Event) (taken : Option Taken) → only_counts s e ≡ taken → ClientRow (office s) (row_by s e taken)
event_row reading s k e (Some taken) is = record { began = none_began [] (λ t opens client. opens); calls = k.clients.calls }
event_row reading s k e None is =
    what_client_row reading (office s) k (few_tokens s e is) (moment_at s e.now) e.salt e.what (what_row (office s) (moment_at s e.now) e.salt e.what) (what_view (office s) (moment_at s e.now) e.salt e.what)

client_row : Reading → (s : Contents) → IsKnown (office s) → (e : Event) → ClientRow (office s) (row s e)
unfolding row
client_row reading s k e = event_row reading s k e (only_counts s e) refl

knows_by : (s : Contents) → KnowsClients (office s) → (now : ℕ) (x : Effect) → ClientRow (office s) x → KnowsClients (office (after_event s now x))
unfolding after_event
knows_by s k now x h = record { server = k.server; slots = entered_sound now s.table x.plan.changes h.began k.slots; calls = h.calls }

pub after_clients : Reading → (s : Contents) (e : Event) → KnowsDialogs (office s) → KnowsClients (office s) → KnowsClients (office (after s e))
after_clients reading s e dialogs k = knows_by s k (moment_after s e) (row s e) (client_row reading s (record { dialogs = dialogs; clients = k }) e)

pub new_clients : (c : Config) (s : Contents) → IsConfigured c → IsNew c s → KnowsClients (office s)
new_clients c s is new = record {
  server = subst IsReached (sym new.server) (record { source = is.source; four = is.four; port = is.rules.port });
  slots = subst (All IsSoundClientIf) (sym new.slots) (All-nil IsSoundClientIf);
  calls = subst (All HasLowNumbers) (sym new.calls) (All-nil HasLowNumbers);
}

-- ---- after any events

answer_known : Reading → (s : Contents) (e : Event) (taken : Option Taken) → IsKnown (office s) → IsKnown (office (after_answer s e taken))
answer_known reading s e None k = k
answer_known reading s e (Some taken) k = record { dialogs = after_dialogs reading s e k.dialogs; clients = after_clients reading s e k.dialogs k.clients }

list_known : Reading → (s : Contents) (xs : List TraceEntry) → IsKnown (office s) → IsKnown (office (after_entries s xs))
list_known reading s [] k = k
list_known reading s (x ∷ xs) k = list_known reading (after_entry s x) xs (answer_known reading s x.event x.answer k)

pub known_clients : Reading → (c : Config) (s : Contents) (xs : List TraceEntry) → IsConfigured c → IsNew c s → KnowsClients (office (after_entries s xs))
known_clients reading c s xs is new = (list_known reading s xs (record { dialogs = new_dialogs c s new is.source.octets; clients = new_clients c s is new })).clients
