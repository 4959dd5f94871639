-- What each event results in: a number for a BYE is left in each dialog of the calls afterwards.
use Rattle.std.proofs.Common.{◌≡◌, ◌∙◌, ℕ, true, List, [], ◌∷◌, Option, Some, None, refl, sym, ap, subst}
use Rattle.std.specs.Prelude.{slice_get}
use Rattle.std.specs.List.{All}
use Rattle.std.proofs.lemmas.List.Elements.{All-nil}
use Rattle.configuration.specs.declared.config.Config.{Config}
use Rattle.events.specs.declared.event.Event.{Event}
use Rattle.events.specs.declared.event.What.{What}
use Rattle.sip_message.specs.declared.message.Message.{Message}
use Rattle.sip_message.specs.declared.message.Parts.{Parts}
use Rattle.sip_message.specs.declared.message.Request.{Request}
use Rattle.sip_message.specs.declared.message.Response.{Response}
use Rattle.transactions.specs.Changes.{fire_of}
use Rattle.transactions.specs.declared.change.Entry.{Entry}
use Rattle.transactions.specs.declared.outcome.Outgoing.{Outgoing}
use Rattle.transactions.specs.declared.transaction.Transaction.{Transaction}
use Rattle.call_media.specs.Ends.{other}
use Rattle.call_core.specs.Calls.{dialog_of}
use Rattle.call_core.specs.declared.action.CallTimer.{CallTimer}
use Rattle.call_core.specs.declared.action.CallTimer.TheVariants as timers
use Rattle.call_core.specs.declared.input.Input.{Input}
use Rattle.call_core.specs.declared.input.Input.TheVariants as inputs
use Rattle.calls.specs.Carrying.{offerer_of}
use Rattle.calls.specs.declared.change.LegDialog.{LegDialog}
use Rattle.calls.specs.declared.standing_call.StandingCall.{StandingCall}
use Rattle.call_rules.specs.Content.{described}
use Rattle.call_rules.specs.Responses.{asked_end, is_open}
use Rattle.call_steps.specs.Rows.{answers_leg, counts, refreshes}
use Rattle.plans.specs.CallRows.{occasion, takes, timer_input, without_call_timer}
use Rattle.plans.specs.Effect.{Effect}
use Rattle.plans.specs.Office.{Office}
use Rattle.plans.specs.declared.setting.Setting.{Setting}
use Rattle.plans.specs.declared.taken.Taken.{Taken}
use Rattle.event_rows.specs.Rows.{after, moment_after, no_source, only_counts, row, row_by, setting, what_row}
use Rattle.event_rows.specs.State.{Contents, IsNew, after_event, moment_at, office}
use Rattle.event_rows.specs.Trace.{Entry as TraceEntry, after_answer, after_entries, after_entry}
use Rattle.message_laws.specs.Knowing.{KnowsTokens}
use Rattle.message_laws.specs.Waiting.{IsCounted, KnowsWaiting}
use Rattle.message_laws.proofs.AwaitedOffers.Awaiting.{fits_at, opened}
use Rattle.message_laws.proofs.TokenUse.Events.{after_knows, new_knows}
use Rattle.message_laws.proofs.Messages.MessageViews.{IsResponseTo, MessageRow, acknowledged, begun_by, dropped, moved, requested, responded}
use Rattle.message_laws.proofs.Messages.RequestViews.{RequestRow, asks_callee, cancelled, counted_alone, left, passed_on, refreshed, replied, unfit}
use Rattle.message_laws.proofs.Messages.ResponseViews.{IsAsked, ResponseRow, ack_alone, again, answered, fork, provisional, refused, silent}
use Rattle.message_laws.proofs.TokenUse.Rows.{answered_client}
use Rattle.message_laws.proofs.AwaitedOffers.Tables.{IsNoOfferInput}
use Rattle.message_laws.proofs.Messages.Views.{DatagramRow, DueRow, WhatRow, call_fired, came, due, ended, fired_alone, idle, listed, ignored, sent_again, stopped, timed, unfit_branched, unreadable, was_received, what_view}
use Rattle.message_laws.proofs.AwaitedOffers.WaitEvents.{after_waits, new_waits}
use Rattle.message_laws.proofs.AwaitedOffers.WaitTakes.{same_is}
use Rattle.media_laws.specs.Coming.{HasNumbersLeft, KnowsNumbersLeft}
use Rattle.media_laws.proofs.Scenes.Counting.{IsLeftPut, answers_left, counts_left, first_left, fork_left, late_left, offers_left, puts_left, refreshes_left, takes_left}

abbrev Leaves : Effect → Type 0
Leaves x = All HasNumbersLeft x.calls.standing.calls

takes_leaves : (s : Office) → KnowsNumbersLeft s → (e : Setting) (begun : List Entry) (send : Option Outgoing) (id : Option ℕ) (place : ℕ) (input : Input) (leg : Option LegDialog) → IsNoOfferInput input → IsLeftPut leg
    → Leaves (takes s e begun send id place input leg)
takes_leaves s k e begun send id place input leg n put = takes_left s.calls s.table (occasion s e) place input leg None n k put

-- ---- requests

request_leaves : (s : Office) → KnowsNumbersLeft s → (e : Setting) (r : Request) (begun : List Entry) (id : ℕ) (x : Effect) → RequestRow s e r begun id x → Leaves x
request_leaves s k e r begun id x (replied reply why is) = subst Leaves (sym is) k
request_leaves s k e r begun id x (unfit reason is) = subst Leaves (sym is) k
request_leaves s k e r begun id x (asks_callee to offer why is) = subst Leaves (sym is) (first_left s.calls (occasion s e) r id e.source to offer k)
request_leaves s k e r begun id x (cancelled other place named_is found is) = subst Leaves (sym is) (takes_left s.calls s.table (occasion s e) place inputs.Cancel None _ tt k tt)
request_leaves s k e r begun id x (left place end rule_is is) =
    subst Leaves (sym is) (takes_left s.calls s.table (occasion s e) place (inputs.Bye end) _ _ tt k (counts_left s.calls.calls place end r.parts.cseq.number k))
request_leaves s k e r begun id x (counted_alone place end reason why is) =
    subst Leaves (sym is) (puts_left s.calls place (counts s.calls.calls place end r.parts.cseq.number) (counts_left s.calls.calls place end r.parts.cseq.number k) k)
request_leaves s k e r begun id x (passed_on place end c offer rule_is why is) =
    subst Leaves (sym is) (offers_left s.calls s.table (occasion s e) place end _ offer r id e.source c k why.there why.numbered)
request_leaves s k e r begun id x (refreshed place end why is) =
    subst Leaves (sym is) (puts_left s.calls place (refreshes s.calls.calls place end r) (refreshes_left s.calls.calls place end r k) k)

-- ---- responses

-- the end that was asked is the one across from the offerer
asked_is : (asked : Parts) (c : StandingCall) → is_open asked c ≡ true → asked_end asked c ≡ other (offerer_of c.call.standing)
asked_is asked c h =
    let o = opened asked c h in
    same_is (asked_end asked c) (other o.0.offerer) o.1.end ∙ ap (λ s. other (offerer_of s)) (sym o.1.stands)

pub asked_counted : (s : Office) → KnowsWaiting s → (r : Response) (id : ℕ) (t : Transaction) (place : ℕ) (c : StandingCall) → IsResponseTo s r id t → slice_get s.calls.calls place ≡ Some c → IsAsked t.parts c
    → IsCounted t.parts.cseq.number (dialog_of (other (offerer_of c.call.standing)) c.call)
asked_counted s waiting r id t place c to there asked =
    let fits = fits_at t s.calls.calls place c (waiting.awaited id t to.there (record { client = answered_client r.parts t to.answers; offers = asked.offers })) there in
    subst (λ x. IsCounted t.parts.cseq.number (dialog_of x c.call)) (asked_is t.parts c asked.waits) (fits asked.tag).counted

response_leaves : (s : Office) → KnowsWaiting s → KnowsNumbersLeft s → (e : Setting) (r : Response) (begun : List Entry) (send : Option Outgoing) (id : ℕ) (t : Transaction) (x : Effect) → IsResponseTo s r id t
    → ResponseRow s e r begun send id t x → Leaves x
response_leaves s waiting k e r begun send id t x to (silent is) = subst Leaves (sym is) k
response_leaves s waiting k e r begun send id t x to (provisional place status c there asked class at_status is) = subst Leaves (sym is) (takes_leaves s k e begun send None place (inputs.Provisional status) None tt tt)
response_leaves s waiting k e r begun send id t x to (answered place c there asked class is) =
    subst Leaves (sym is) (takes_leaves s k e begun send (Some id) place (inputs.Answer (described r.headers r.body)) (answers_leg s.calls.calls place t.parts r) tt
    (answers_left s.calls.calls place t.parts r c there (asked_counted s waiting r id t place c to there asked) k))
response_leaves s waiting k e r begun send id t x to (again place acked is) = subst Leaves (sym is) k
response_leaves s waiting k e r begun send id t x to (fork why is) = subst Leaves (sym is) (fork_left s.calls (occasion s e) t.parts r k)
response_leaves s waiting k e r begun send id t x to (ack_alone is) = subst Leaves (sym is) (late_left s.calls (occasion s e) t.parts r k)
response_leaves s waiting k e r begun send id t x to (refused place status c there asked class at_status is) = subst Leaves (sym is) (takes_leaves s k e begun send None place (inputs.Refusal status) None tt tt)

-- ---- what came

message_leaves : (s : Office) → KnowsWaiting s → KnowsNumbersLeft s → (e : Setting) (m : Message) (send : Option Outgoing) (x : Effect) → MessageRow s e m (begun_by s e m) send x → Leaves x
message_leaves s waiting k e m send x (dropped taken is) = subst Leaves (sym is) k
message_leaves s waiting k e m send x (moved is) = subst Leaves (sym is) k
message_leaves s waiting k e m send x (requested r id is new row) = request_leaves s k e r (begun_by s e m) id x row
message_leaves s waiting k e m send x (acknowledged r place is found row_is) = subst Leaves (sym row_is) (takes_leaves s k e (begun_by s e m) None None place inputs.Ack None tt tt)
message_leaves s waiting k e m send x (responded r id t is up to row) = response_leaves s waiting k e r (begun_by s e m) send id t x to row

datagram_leaves : (s : Office) → KnowsWaiting s → KnowsNumbersLeft s → (e : Setting) (bytes : List ℕ) (x : Effect) → DatagramRow s e bytes x → Leaves x
datagram_leaves s waiting k e bytes x (ignored taken is) = subst Leaves (sym is) k
datagram_leaves s waiting k e bytes x (unreadable fault parts unread can is) = subst Leaves (sym is) k
datagram_leaves s waiting k e bytes x (unfit_branched r read is) = subst Leaves (sym is) k
datagram_leaves s waiting k e bytes x (was_received m read branch reached row) = message_leaves s waiting k e m _ x row

-- ---- what is due

timer_leaves : (s : Office) → KnowsNumbersLeft s → (e : Setting) (place : ℕ) (timer : CallTimer) → Leaves (takes s e [] None None place (timer_input timer) None)
timer_leaves s k e place timers.Limit = takes_leaves s k e [] None None place inputs.Limit None tt tt
timer_leaves s k e place timers.Repeat = takes_leaves s k e [] None None place inputs.Repeat None tt tt
timer_leaves s k e place timers.Wait = takes_leaves s k e [] None None place inputs.Wait None tt tt
timer_leaves s k e place timers.Lifetime = takes_leaves s k e [] None None place inputs.Lifetime None tt tt

due_leaves : (s : Office) → KnowsNumbersLeft s → (e : Setting) (x : Effect) → DueRow s e x → Leaves x
due_leaves s k e x (idle is) = subst Leaves (sym is) k
due_leaves s k e x (listed users is) = subst Leaves (sym is) k
due_leaves s k e x (sent_again timer out fired is) = subst Leaves (sym is) k
due_leaves s k e x (fired_alone timer fired is) = subst Leaves (sym is) k
due_leaves s k e x (timed timer t place fired times there found is) = subst Leaves (sym is) (takes_leaves s k e (fire_of timer ∷ []) None None place inputs.TimedOut None tt tt)
due_leaves s k e x (ended timer fired is) = subst Leaves (sym is) k
due_leaves s k e x (stopped timer is) = subst Leaves (sym is) k
due_leaves s k e x (call_fired timer place found is) = subst Leaves (sym is) (timer_leaves (without_call_timer timer s) k e place timer.timer)

what_leaves : (s : Office) → KnowsWaiting s → KnowsNumbersLeft s → (now salt : ℕ) (what : What) (x : Effect) → WhatRow s now salt what x → Leaves x
what_leaves s waiting k now salt what x (came source bytes is row) = datagram_leaves s waiting k (setting now salt source) bytes x row
what_leaves s waiting k now salt what x (due is row) = due_leaves s k (setting now salt no_source) x row

-- ---- an event

event_leaves : (s : Contents) → KnowsWaiting (office s) → KnowsNumbersLeft (office s) → (e : Event) (taken : Option Taken) → only_counts s e ≡ taken → Leaves (row_by s e taken)
event_leaves s waiting k e (Some taken) is = k
event_leaves s waiting k e None is = what_leaves (office s) waiting k (moment_at s e.now) e.salt e.what (what_row (office s) (moment_at s e.now) e.salt e.what) (what_view (office s) (moment_at s e.now) e.salt e.what)

row_leaves : (s : Contents) → KnowsWaiting (office s) → KnowsNumbersLeft (office s) → (e : Event) → Leaves (row s e)
unfolding row
row_leaves s waiting k e = event_leaves s waiting k e (only_counts s e) refl

left_by : (s : Contents) (now : ℕ) (x : Effect) → Leaves x → KnowsNumbersLeft (office (after_event s now x))
unfolding after_event
left_by s now x h = h

pub after_leaves : (s : Contents) (e : Event) → KnowsWaiting (office s) → KnowsNumbersLeft (office s) → KnowsNumbersLeft (office (after s e))
after_leaves s e waiting k = left_by s (moment_after s e) (row s e) (row_leaves s waiting k e)

pub new_leaves : (c : Config) (s : Contents) → IsNew c s → KnowsNumbersLeft (office s)
new_leaves c s new = subst (All HasNumbersLeft) (sym new.calls) (All-nil HasNumbersLeft)

answer_leaves : (s : Contents) (e : Event) (taken : Option Taken) → KnowsWaiting (office s) → KnowsNumbersLeft (office s) → KnowsNumbersLeft (office (after_answer s e taken))
answer_leaves s e None waiting k = k
answer_leaves s e (Some taken) waiting k = after_leaves s e waiting k

answer_tokens : (s : Contents) (e : Event) (taken : Option Taken) → KnowsTokens (office s) → KnowsTokens (office (after_answer s e taken))
answer_tokens s e None tokens = tokens
answer_tokens s e (Some taken) tokens = after_knows s e tokens

answer_waiting : (s : Contents) (e : Event) (taken : Option Taken) → KnowsTokens (office s) → KnowsWaiting (office s) → KnowsWaiting (office (after_answer s e taken))
answer_waiting s e None tokens waiting = waiting
answer_waiting s e (Some taken) tokens waiting = after_waits s e tokens waiting

list_leaves : (s : Contents) (xs : List TraceEntry) → KnowsTokens (office s) → KnowsWaiting (office s) → KnowsNumbersLeft (office s) → KnowsNumbersLeft (office (after_entries s xs))
list_leaves s [] tokens waiting k = k
list_leaves s (x ∷ xs) tokens waiting k =
    list_leaves (after_entry s x) xs (answer_tokens s x.event x.answer tokens) (answer_waiting s x.event x.answer tokens waiting) (answer_leaves s x.event x.answer waiting k)

pub known_leaves : (c : Config) (s : Contents) (xs : List TraceEntry) → IsNew c s → KnowsNumbersLeft (office (after_entries s xs))
known_leaves c s xs new = list_leaves s xs (new_knows c s new) (new_waits c s new) (new_leaves c s new)
