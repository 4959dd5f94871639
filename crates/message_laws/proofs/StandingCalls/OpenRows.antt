-- What each event results in: each call that waits for a final response afterwards waits for that to a request that
-- was begun.
use Rattle.std.proofs.Common.{◌≡◌, ◌∙◌, ℕ, true, false, List, [], ◌∷◌, ◌++◌, Option, Some, None, refl, sym, subst}
use Rattle.std.specs.Prelude.{slice_get}
use Rattle.std.specs.List.{All}
use Rattle.std.proofs.lemmas.Bool.{false≢true}
use Rattle.std.proofs.lemmas.List.{append-nil, append_assoc}
use Rattle.std.proofs.lemmas.List.Elements.{All-nil, All-set}
use Rattle.std.proofs.lemmas.Option.{same_Some}
use Rattle.configuration.specs.declared.config.Config.{Config}
use Rattle.sip_message.specs.declared.message.Message.{Message}
use Rattle.sip_message.specs.declared.message.Request.{Request}
use Rattle.sip_message.specs.declared.message.Response.{Response}
use Rattle.events.specs.declared.event.Event.{Event}
use Rattle.events.specs.declared.event.What.{What}
use Rattle.events.specs.declared.sent.Sent.{Sent}
use Rattle.transactions.specs.Changes.{fire_of}
use Rattle.transactions.specs.declared.change.Entry.{Entry}
use Rattle.transactions.specs.declared.outcome.Outgoing.{Outgoing}
use Rattle.transactions.specs.declared.transaction.Transaction.{Transaction}
use Rattle.call_core.specs.declared.action.CallTimer.{CallTimer}
use Rattle.call_core.specs.declared.action.CallTimer.TheVariants as timers
use Rattle.call_core.specs.declared.input.Input.{Input}
use Rattle.call_core.specs.declared.input.Input.TheVariants as inputs
use Rattle.calls.specs.Carrying.{changed_at, with_dialog_at}
use Rattle.calls.specs.Changes.{unchanged}
use Rattle.calls.specs.State.{Standing}
use Rattle.calls.specs.declared.change.LegDialog.{LegDialog}
use Rattle.calls.specs.declared.standing_call.StandingCall.{StandingCall}
use Rattle.call_rules.specs.Content.{described}
use Rattle.call_steps.specs.Effects as steps
use Rattle.call_steps.specs.Rows.{answers_leg}
use Rattle.plans.specs.CallRows.{occasion, of_plan, okay_plan, puts_if, takes, takes_request, timer_input, with_step, without_call_timer}
use Rattle.plans.specs.Effect.{Effect}
use Rattle.plans.specs.Office.{Office}
use Rattle.plans.specs.Plan.{Plan, nothing}
use Rattle.plans.specs.Replies.{refuses_for}
use Rattle.plans.specs.declared.setting.Setting.{Setting}
use Rattle.plans.specs.declared.taken.Taken.{Taken}
use Rattle.event_rows.specs.Rows.{after, moment_after, no_source, only_counts, row, row_by, setting, what_row}
use Rattle.event_rows.specs.State.{Contents, IsNew, after_event, moment_at, office}
use Rattle.event_rows.specs.Trace.{AreEntries, Entry as TraceEntry, after_answer, after_entries, after_entry}
use Rattle.message_laws.specs.Addresses.{HasOctets}
use Rattle.message_laws.specs.Knowing.{KnowsTokens}
use Rattle.message_laws.specs.Knowledge.{KnowsMessages}
use Rattle.message_laws.specs.Numbers.{begun_at, begun_in, begun_of}
use Rattle.message_laws.specs.OpenRequests.{HasRequest, IsAmong, KnowsRequests}
use Rattle.message_laws.specs.Sound.{HasSoundLegs, KnowsDialogs}
use Rattle.message_laws.specs.Waiting.{KnowsWaiting}
use Rattle.message_laws.proofs.AwaitedOffers.Awaiting.{LegKeeps, all_at, fits_at}
use Rattle.message_laws.proofs.TokenUse.Calls.{FitsLeg}
use Rattle.message_laws.proofs.AwaitedOffers.Coming.{OpensIn}
use Rattle.message_laws.proofs.AwaitedOffers.Keeping.{put_open}
use Rattle.message_laws.proofs.AwaitedOffers.Lists.{answer_messages, new_messages}
use Rattle.message_laws.proofs.Messages.MessageViews.{IsResponseTo, MessageRow, acknowledged, begun_by, dropped, moved, requested, responded}
use Rattle.message_laws.proofs.StandingCalls.OpenRequests.{Within, among_left, among_right, opens_among, opens_right, request_within, requests_within, still_request}
use Rattle.message_laws.proofs.StandingCalls.OpenSteps.{OpenStep, first_open, fork_open, late_open, offers_open, takes_open}
use Rattle.message_laws.proofs.StandingCalls.Reading.{Reading}
use Rattle.message_laws.proofs.Messages.RequestViews.{RequestRow, asks_callee, cancelled, counted_alone, left, passed_on, refreshed, replied, unfit}
use Rattle.message_laws.proofs.Messages.ResponseViews.{IsAsked, ResponseRow, ack_alone, again, answered, fork, provisional, refused, silent}
use Rattle.message_laws.proofs.TokenUse.Rows.{answered_client}
use Rattle.message_laws.proofs.StandingCalls.SoundRows.{answer_dialogs, callee_target, new_dialogs}
use Rattle.message_laws.proofs.TokenUse.TaggedSteps.{answers_fits, counts_fits, refreshes_fits}
use Rattle.message_laws.proofs.AwaitedOffers.Tables.{IsNoOfferInput, consumes_input}
use Rattle.message_laws.proofs.Messages.Views.{DatagramRow, DueRow, WhatRow, call_fired, came, due, ended, fired_alone, idle, listed, ignored, sent_again, stopped, timed, unfit_branched, unreadable, was_received, what_view}
use Rattle.message_laws.proofs.AwaitedOffers.WaitEffects.{answers_grows}
use Rattle.message_laws.proofs.AwaitedOffers.WaitPassed.{passes_settled}
use Rattle.message_laws.proofs.AwaitedOffers.WaitRows.{calm_leg, no_leg}
use Rattle.message_laws.proofs.AwaitedOffers.WaitSteps.{counts_keeps, refreshes_keeps}
use Rattle.message_laws.proofs.AwaitedOffers.WaitTakes.{LegFits}

-- ---- an effect

pub record Opens (s : Office) (x : Effect) : Type 0 where
  pub kept : (begun all : List Transaction) → Within begun all → ((t : Transaction) → OpensIn t x.plan.changes → IsAmong all t) → All (HasRequest begun) s.calls.calls → All (HasRequest all) x.calls.standing.calls

-- the calls stay
plan_opens : (s : Office) (p : Plan) → Opens s (of_plan s p)
plan_opens s p = record { kept = λ begun all old new each. requests_within begun all s.calls.calls old each }

step_opens : (s : Office) (begun : List Entry) (send : Option Outgoing) (id : Option ℕ) (x : steps.Effect) → OpenStep s.calls.calls x → Opens s (with_step s.acks begun send id x)
step_opens s begun send id x step = record { kept = λ before all old new each. step.kept before all old (λ t opens. new t (opens_right t begun x.dressed.changes opens)) each }

takes_opens : (s : Office) (e : Setting) (begun : List Entry) (send : Option Outgoing) (id : Option ℕ) (place made : ℕ) (input : Input) (leg : Option LegDialog) → IsNoOfferInput input
    → ((d : StandingCall) → slice_get s.calls.calls place ≡ Some d → LegFits (consumes_input input) made leg d) → Opens s (takes s e begun send id place input leg)
takes_opens s e begun send id place made input leg n fits = step_opens s begun send id _ (takes_open s.calls s.table (occasion s e) place made input leg None n fits)

asked_opens : (s : Office) (e : Setting) (r : Request) (begun : List Entry) (id place made : ℕ) (input : Input) (leg : Option LegDialog) (tag : List ℕ) → IsNoOfferInput input
    → ((d : StandingCall) → slice_get s.calls.calls place ≡ Some d → LegFits (consumes_input input) made leg d) → Opens s (takes_request s e r begun id place input leg tag)
asked_opens s e r begun id place made input leg tag n fits = step_opens s begun None None _ (takes_open s.calls s.table (occasion s e) place made input leg _ n fits)

-- a dialog is put beside a call
changed_opens : (made place : ℕ) (leg : LegDialog) (calls : List StandingCall) (c : Option StandingCall) (begun all : List Transaction) → slice_get calls place ≡ c
    → ((d : StandingCall) → slice_get calls place ≡ Some d → FitsLeg made d (Some leg) × LegKeeps d.call (Some leg)) → Within begun all → All (HasRequest begun) calls
    → All (HasRequest all) (changed_at (with_dialog_at leg.end leg.dialog) place calls c)
changed_opens made place leg calls None begun all there fits old each = requests_within begun all calls old each
changed_opens made place leg calls (Some c) begun all there fits old each =
    let fit = fits c there in
    All-set (HasRequest all) calls place (with_dialog_at leg.end leg.dialog c)
    (still_request all c (with_dialog_at leg.end leg.dialog c) (put_open made c leg fit.0 fit.1) (request_within begun all c old (all_at (HasRequest begun) calls place c each there))) (requests_within begun all calls old each)

puts_kept : (made place : ℕ) (leg : Option LegDialog) (calls : Standing) (begun all : List Transaction) → ((d : StandingCall) → slice_get calls.calls place ≡ Some d → FitsLeg made d leg × LegKeeps d.call leg)
    → Within begun all → All (HasRequest begun) calls.calls → All (HasRequest all) (puts_if calls place leg).calls
puts_kept made place None calls begun all fits old each = requests_within begun all calls.calls old each
puts_kept made place (Some leg) calls begun all fits old each = changed_opens made place leg calls.calls (slice_get calls.calls place) begun all refl fits old each

puts_opens : (s : Office) (made place : ℕ) (leg : Option LegDialog) (p : Plan) → ((d : StandingCall) → slice_get s.calls.calls place ≡ Some d → FitsLeg made d leg × LegKeeps d.call leg)
    → Opens s (record { plan = p; calls = unchanged (puts_if s.calls place leg); acks = s.acks })
puts_opens s made place leg p fits = record { kept = λ begun all old new each. puts_kept made place leg s.calls begun all fits old each }

-- ---- the rows

request_opens : (s : Office) → KnowsTokens s → KnowsDialogs s → (e : Setting) (r : Request) (begun : List Entry) (id : ℕ) (x : Effect) → RequestRow s e r begun id x → Opens s x
request_opens s tokens k e r begun id x (replied reply why is) = subst (Opens s) (sym is) (plan_opens s _)
request_opens s tokens k e r begun id x (unfit reason is) = subst (Opens s) (sym is) (plan_opens s _)
request_opens s tokens k e r begun id x (asks_callee to offer why is) =
    subst (Opens s) (sym is) (step_opens s begun None None _ (first_open s.calls (occasion s e) r id e.source to offer (callee_target s k r e.now to why.bound).leads))
request_opens s tokens k e r begun id x (cancelled other place named_is found is) =
    subst (Opens s) (sym is) (asked_opens s e r begun id place 0 inputs.Cancel None _ tt (λ d there. no_leg 0 d false))
request_opens s tokens k e r begun id x (left place end rule_is is) =
    subst (Opens s) (sym is) (
    asked_opens s e r begun id place s.tokens (inputs.Bye end) _ _ tt
    (λ d there. calm_leg s.tokens _ d (counts_fits s.tokens s.calls.calls place end r.parts.cseq.number d tokens.calls there) (counts_keeps s.calls.calls place end r.parts.cseq.number d there))
    )
request_opens s tokens k e r begun id x (counted_alone place end reason why is) =
    subst (Opens s) (sym is) (
    puts_opens s s.tokens place _ (refuses_for s e r begun id reason)
    (λ d there. (counts_fits s.tokens s.calls.calls place end r.parts.cseq.number d tokens.calls there, counts_keeps s.calls.calls place end r.parts.cseq.number d there))
    )
request_opens s tokens k e r begun id x (passed_on place end c offer rule_is why is) =
    subst (Opens s) (sym is) (
    step_opens s begun None None _
    (offers_open s.calls s.table (occasion s e) place end _ offer r id e.source c why.there (passes_settled r end c.call why.passes) tokens.calls
    (all_at HasSoundLegs s.calls.calls place c k.calls why.there) why.numbered)
    )
request_opens s tokens k e r begun id x (refreshed place end why is) =
    subst (Opens s) (sym is) (
    puts_opens s s.tokens place _ (okay_plan s e r begun id)
    (λ d there. (refreshes_fits s.tokens s.calls.calls place end r d tokens.calls there, refreshes_keeps s.calls.calls place end r d there))
    )

response_opens : (s : Office) → KnowsTokens s → KnowsWaiting s → (e : Setting) (r : Response) (begun : List Entry) (send : Option Outgoing) (id : ℕ) (t : Transaction) (x : Effect) → IsResponseTo s r id t
    → ResponseRow s e r begun send id t x → Opens s x
response_opens s tokens k e r begun send id t x to (silent is) = subst (Opens s) (sym is) (plan_opens s _)
response_opens s tokens k e r begun send id t x to (provisional place status c there asked class at_status is) =
    subst (Opens s) (sym is) (takes_opens s e begun send None place 0 (inputs.Provisional status) None tt (λ d at_d. no_leg 0 d false))
response_opens s tokens k e r begun send id t x to (answered place c there asked class is) =
    subst (Opens s) (sym is) (
    takes_opens s e begun send (Some id) place s.tokens (inputs.Answer (described r.headers r.body)) (answers_leg s.calls.calls place t.parts r) tt
    (λ d at_d.
    let asked_d = subst (IsAsked t.parts) (same_Some c d (sym there ∙ at_d)) asked in
    record {
      tags = answers_fits s.tokens s.calls.calls place t.parts r d tokens.calls at_d asked_d.waits;
      grows = answers_grows t s.calls.calls place r d at_d asked_d
          (fits_at t s.calls.calls place d (k.awaited id t to.there (record { client = answered_client r.parts t to.answers; offers = asked.offers })) at_d);
      keeps = λ calm. absurd (false≢true (sym calm));
    })
    )
response_opens s tokens k e r begun send id t x to (again place acked is) = subst (Opens s) (sym is) (plan_opens s _)
response_opens s tokens k e r begun send id t x to (fork why is) = subst (Opens s) (sym is) (step_opens s begun send None _ (fork_open s.calls (occasion s e) t.parts r))
response_opens s tokens k e r begun send id t x to (ack_alone is) = subst (Opens s) (sym is) (step_opens s begun send None _ (late_open s.calls (occasion s e) t.parts r))
response_opens s tokens k e r begun send id t x to (refused place status c there asked class at_status is) =
    subst (Opens s) (sym is) (takes_opens s e begun send None place 0 (inputs.Refusal status) None tt (λ d at_d. no_leg 0 d true))

message_opens : (s : Office) → KnowsTokens s → KnowsWaiting s → KnowsDialogs s → (e : Setting) (m : Message) (begun : List Entry) (send : Option Outgoing) (x : Effect) → MessageRow s e m begun send x → Opens s x
message_opens s tokens k dialogs e m begun send x (dropped taken is) = subst (Opens s) (sym is) (plan_opens s _)
message_opens s tokens k dialogs e m begun send x (moved is) = subst (Opens s) (sym is) (plan_opens s _)
message_opens s tokens k dialogs e m begun send x (requested r id is new row) = request_opens s tokens dialogs e r begun id x row
message_opens s tokens k dialogs e m begun send x (acknowledged r place is found row_is) =
    subst (Opens s) (sym row_is) (takes_opens s e begun None None place 0 inputs.Ack None tt (λ d there. no_leg 0 d false))
message_opens s tokens k dialogs e m begun send x (responded r id t is up to row) = response_opens s tokens k e r begun send id t x to row

datagram_opens : (s : Office) → KnowsTokens s → KnowsWaiting s → KnowsDialogs s → (e : Setting) (bytes : List ℕ) (x : Effect) → DatagramRow s e bytes x → Opens s x
datagram_opens s tokens k dialogs e bytes x (ignored taken is) = subst (Opens s) (sym is) (plan_opens s _)
datagram_opens s tokens k dialogs e bytes x (unreadable fault parts unread can is) = subst (Opens s) (sym is) (plan_opens s _)
datagram_opens s tokens k dialogs e bytes x (unfit_branched r read is) = subst (Opens s) (sym is) (plan_opens s _)
datagram_opens s tokens k dialogs e bytes x (was_received m read branch reached row) = message_opens s tokens k dialogs e m (begun_by s e m) _ x row

timer_opens : (s : Office) (e : Setting) (place : ℕ) (timer : CallTimer) → Opens s (takes s e [] None None place (timer_input timer) None)
timer_opens s e place timers.Limit = takes_opens s e [] None None place 0 inputs.Limit None tt (λ d there. no_leg 0 d false)
timer_opens s e place timers.Repeat = takes_opens s e [] None None place 0 inputs.Repeat None tt (λ d there. no_leg 0 d false)
timer_opens s e place timers.Wait = takes_opens s e [] None None place 0 inputs.Wait None tt (λ d there. no_leg 0 d false)
timer_opens s e place timers.Lifetime = takes_opens s e [] None None place 0 inputs.Lifetime None tt (λ d there. no_leg 0 d false)

due_opens : (s : Office) (e : Setting) (x : Effect) → DueRow s e x → Opens s x
due_opens s e x (idle is) = subst (Opens s) (sym is) (plan_opens s _)
due_opens s e x (listed users is) = subst (Opens s) (sym is) (plan_opens s _)
due_opens s e x (sent_again timer out fired is) = subst (Opens s) (sym is) (plan_opens s _)
due_opens s e x (fired_alone timer fired is) = subst (Opens s) (sym is) (plan_opens s _)
due_opens s e x (timed timer t place fired times there found is) =
    subst (Opens s) (sym is) (takes_opens s e (fire_of timer ∷ []) None None place 0 inputs.TimedOut None tt (λ d at_d. no_leg 0 d true))
due_opens s e x (ended timer fired is) = subst (Opens s) (sym is) (record { kept = λ begun all old new each. requests_within begun all s.calls.calls old each })
due_opens s e x (stopped timer is) = subst (Opens s) (sym is) (record { kept = λ begun all old new each. requests_within begun all s.calls.calls old each })
due_opens s e x (call_fired timer place found is) =
    let opens = timer_opens (without_call_timer timer s) e place timer.timer in
    subst (Opens s) (sym is) (record { kept = opens.kept })

what_opens : (s : Office) → KnowsTokens s → KnowsWaiting s → KnowsDialogs s → (now salt : ℕ) (what : What) (x : Effect) → WhatRow s now salt what x → Opens s x
what_opens s tokens k dialogs now salt what x (came source bytes is row) = datagram_opens s tokens k dialogs (setting now salt source) bytes x row
what_opens s tokens k dialogs now salt what x (due is row) = due_opens s (setting now salt no_source) x row

-- ---- an event

event_opens : (s : Contents) → KnowsTokens (office s) → KnowsWaiting (office s) → KnowsDialogs (office s) → (e : Event) (taken : Option Taken) → Opens (office s) (row_by s e taken)
event_opens s tokens k dialogs e (Some taken) = plan_opens (office s) (nothing taken)
event_opens s tokens k dialogs e None =
    what_opens (office s) tokens k dialogs (moment_at s e.now) e.salt e.what (what_row (office s) (moment_at s e.now) e.salt e.what) (what_view (office s) (moment_at s e.now) e.salt e.what)

row_opens : (s : Contents) → KnowsTokens (office s) → KnowsWaiting (office s) → KnowsDialogs (office s) → (e : Event) → Opens (office s) (row s e)
unfolding row
row_opens s tokens k dialogs e = event_opens s tokens k dialogs e (only_counts s e)

requests_by : (s : Contents) (begun : List Transaction) (now : ℕ) (x : Effect) → KnowsRequests (office s) begun → Opens (office s) x → KnowsRequests (office (after_event s now x)) (begun ++ begun_of x.plan.changes)
unfolding after_event
requests_by s begun now x each opens =
    opens.kept begun (begun ++ begun_of x.plan.changes) (λ t h. among_left begun (begun_of x.plan.changes) t h) (λ t h. among_right begun (begun_of x.plan.changes) t (opens_among x.plan.changes t h)) each

pub after_requests : (s : Contents) (e : Event) (begun : List Transaction) → KnowsTokens (office s) → KnowsWaiting (office s) → KnowsDialogs (office s) → KnowsRequests (office s) begun
    → KnowsRequests (office (after s e)) (begun ++ begun_of (row s e).plan.changes)
after_requests s e begun tokens k dialogs each = requests_by s begun (moment_after s e) (row s e) each (row_opens s tokens k dialogs e)

pub new_requests : (c : Config) (s : Contents) → IsNew c s → KnowsRequests (office s) []
new_requests c s new = subst (All (HasRequest [])) (sym new.calls) (All-nil (HasRequest []))

-- ---- a list of events

answer_requests : (s : Contents) (x : TraceEntry) (begun : List Transaction) (taken : Option Taken) → KnowsTokens (office s) → KnowsWaiting (office s) → KnowsDialogs (office s) → KnowsRequests (office s) begun
    → KnowsRequests (office (after_answer s x.event taken)) (begun ++ begun_at s x.event taken)
answer_requests s x begun None tokens k dialogs each = subst (KnowsRequests (office s)) (sym (append-nil begun)) each
answer_requests s x begun (Some taken) tokens k dialogs each = after_requests s x.event begun tokens k dialogs each

list_requests : Reading → (s : Contents) (xs : List TraceEntry) (sent : List Sent) (begun : List Transaction) → AreEntries s xs → KnowsMessages (office s) sent → KnowsDialogs (office s) → KnowsRequests (office s) begun
    → KnowsRequests (office (after_entries s xs)) (begun ++ begun_in s xs)
list_requests reading s [] sent begun are k dialogs each = subst (KnowsRequests (office s)) (sym (append-nil begun)) each
list_requests reading s (x ∷ xs) sent begun are k dialogs each =
    subst (KnowsRequests (office (after_entries (after_entry s x) xs))) (append_assoc begun (begun_at s x.event x.answer) (begun_in (after_entry s x) xs))
    (list_requests reading (after_entry s x) xs (sent ++ x.sends) (begun ++ begun_at s x.event x.answer) are.1 (answer_messages s x sent x.answer are.0 k) (answer_dialogs reading s x.event x.answer dialogs)
    (answer_requests s x begun x.answer k.tokens k.waiting dialogs each))

pub known_requests : Reading → (c : Config) (s : Contents) (xs : List TraceEntry) → IsNew c s → HasOctets c.ip → AreEntries s xs → KnowsRequests (office (after_entries s xs)) (begun_in s xs)
known_requests reading c s xs new octets are = list_requests reading s xs [] [] are (new_messages c s new) (new_dialogs c s new octets) (new_requests c s new)
