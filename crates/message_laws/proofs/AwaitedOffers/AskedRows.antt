-- What each event results in for the offers for whose answers the calls wait, row by row.
use Rattle.std.proofs.Common.{◌≡◌, ℕ, Bool, true, false, cond, ◌||◌, nat_lt, List, [], ◌∷◌, ◌++◌, codes, get_or, Option, Some, None, Ok, position, refl, sym, ap, subst, inl, inr, arith}
use Rattle.std.specs.Prelude.{nat_eq}
use Rattle.std.specs.Cmp.Lexicographic.{pointwise}
use Rattle.std.specs.List.{All}
use Rattle.std.proofs.lemmas.Bool.{ltb-false, ltb-true}
use Rattle.std.proofs.lemmas.List.{append-nil}
use Rattle.std.proofs.lemmas.List.Elements.{All-nil}
use Rattle.configuration.specs.declared.config.Config.{Config}
use Rattle.events.specs.declared.event.Event.{Event}
use Rattle.events.specs.declared.event.What.{What}
use Rattle.sip_message.specs.Read.{message_of}
use Rattle.sip_message.specs.Words.{is_method}
use Rattle.sip_message.specs.declared.message.Message.{Message}
use Rattle.sip_message.specs.declared.message.Message.TheVariants as Kinds
use Rattle.sip_message.specs.declared.message.Parts.{Parts}
use Rattle.sip_message.specs.declared.message.Request.{Request}
use Rattle.sip_message.specs.declared.message.Response.{Response}
use Rattle.sip_message.specs.declared.words.Class.TheVariants as classes
use Rattle.sip_uri.specs.declared.uri.Addr.{Addr}
use Rattle.transaction_machines.specs.declared.step.Starts.TheVariants.{NoTimer}
use Rattle.transactions.specs.Changes.{answer_of, change_of, entered_all, fire_of, request_change}
use Rattle.transactions.specs.Contents.{reception_of}
use Rattle.transactions.specs.Slots.{at, is_asked}
use Rattle.transactions.specs.declared.outcome.Verdict.TheVariants as verdicts
use Rattle.transactions.specs.Transactions.{served}
use Rattle.transactions.specs.declared.change.Entry.{Entry}
use Rattle.transactions.specs.declared.change.Entry.TheVariants.{Leaves, Opens}
use Rattle.transactions.specs.declared.outcome.Outgoing.{Outgoing}
use Rattle.transactions.specs.declared.transaction.Transaction.{Transaction}
use Rattle.call_core.specs.declared.action.CallTimer.{CallTimer}
use Rattle.call_core.specs.declared.action.CallTimer.TheVariants as timers
use Rattle.call_core.specs.declared.input.Input.{Input}
use Rattle.call_core.specs.declared.input.Input.TheVariants as inputs
use Rattle.call_rules.specs.Content.{described}
use Rattle.call_rules.specs.Speaking.{is_invite, is_update, may_offer}
use Rattle.calls.specs.Changes.{unchanged}
use Rattle.calls.specs.declared.change.LegDialog.{LegDialog}
use Rattle.call_steps.specs.Effects as steps
use Rattle.call_steps.specs.Rows.{answers_leg, counts, first_row, fork_row, late_row, offers_row, refreshes, takes_row}
use Rattle.plans.specs.CallRows.{acks_again, occasion, of_plan, offer_method, puts_if, takes, takes_request, timer_input, with_step, without_call_timer}
use Rattle.plans.specs.Effect.{Effect}
use Rattle.plans.specs.Office.{Office}
use Rattle.plans.specs.Plan.{Plan, moves, nothing}
use Rattle.plans.specs.declared.setting.Setting.{Setting}
use Rattle.plans.specs.declared.taken.Taken.{Taken}
use Rattle.event_rows.specs.Rows.{after, moment_after, no_source, only_counts, row, row_by, setting, what_row}
use Rattle.event_rows.specs.State.{Contents, IsNew, after_event, moment_at, office}
use Rattle.message_laws.specs.Askers.{IsServed, KnowsAskers}
use Rattle.message_laws.proofs.Askers.AskerEvents.{new_begun}
use Rattle.message_laws.proofs.AwaitedOffers.Coming.{OpensIn}
use Rattle.message_laws.proofs.Messages.MessageViews.{MessageRow, acknowledged, begun_by, dropped, moved, requested, responded}
use Rattle.message_laws.proofs.StandingCalls.Reaching.{offers_may_offer}
use Rattle.message_laws.proofs.Messages.ReadParts.{IsStatus, response_status, same_method}
use Rattle.message_laws.proofs.Messages.Replying.{IsReply, okay_reply, refuses_reply, row_reply}
use Rattle.message_laws.proofs.Messages.RequestViews.{RequestRow, asks_callee, cancelled, counted_alone, left, passed_on, refreshed, replied, unfit}
use Rattle.message_laws.proofs.Messages.ResponseViews.{ResponseRow, ack_alone, again, answered, fork, provisional, refused, silent}
use Rattle.message_laws.proofs.Askers.SpokenLines.{FitsInput, is_offer_input}
use Rattle.message_laws.proofs.Messages.Views.{DatagramRow, DueRow, WhatRow, call_fired, came, due, ended, fired_alone, idle, listed, ignored, sent_again, stopped, timed, unfit_branched, unreadable, was_received, what_view}
use Rattle.message_laws.specs.Asked.{HasAskerIf, KnowsAsked}
use Rattle.message_laws.proofs.AwaitedOffers.AskedOrigins.{Origin, first_origins, fork_origins, kept_all, late_origins, offers_origins, origin_asked, puts_origins, takes_origins}
use Rattle.message_laws.proofs.AwaitedOffers.OwnOpens.{AllOwn, IsOne, first_own, fork_own, late_own, offers_own, takes_own}

-- ---- an effect

pub record Asks (s : Office) (x : Effect) : Type 0 where
  pub begun : List Entry
  pub rest : List Entry
  pub whole : x.plan.changes ≡ begun ++ rest
  pub one : IsOne begun
  pub own : AllOwn rest
  pub calls : All (Origin s.table.slots begun) x.calls.standing.calls

none_own : AllOwn []
none_own t opens = absurd opens

-- no call has to do with it
plan_asks : (s : Office) → KnowsAsked s → (p : Plan) (begun rest : List Entry) → p.changes ≡ begun ++ rest → IsOne begun → AllOwn rest → Asks s (of_plan s p)
plan_asks s k p begun rest whole one own = record { begun = begun; rest = rest; whole = whole; one = one; own = own; calls = kept_all s.table.slots begun s.calls.calls k }

quiet_asks : (s : Office) → KnowsAsked s → (taken : Taken) → Asks s (of_plan s (nothing taken))
quiet_asks s k taken = plan_asks s k (nothing taken) [] [] refl tt none_own

moves_ask : (s : Office) → KnowsAsked s → (begun : List Entry) (send : Option Outgoing) → IsOne begun → Asks s (of_plan s (moves begun send))
moves_ask s k begun send one = plan_asks s k (moves begun send) begun [] (sym (append-nil begun)) one none_own

reply_asks : (s : Office) → KnowsAsked s → (begun : List Entry) (id : ℕ) (p : Plan) → IsReply begun id p → IsOne begun → Asks s (of_plan s p)
reply_asks s k begun id p is one = plan_asks s k p begun (answer_of id is.response ∷ []) is.changes one (λ t opens. absurd opens)

put_asks : (s : Office) → KnowsAsked s → (begun : List Entry) (id place : ℕ) (leg : Option LegDialog) (p : Plan) → IsReply begun id p → IsOne begun
    → Asks s (record { plan = p; calls = unchanged (puts_if s.calls place leg); acks = s.acks })
put_asks s k begun id place leg p is one = record { begun = begun; rest = answer_of id is.response ∷ []; whole = is.changes; one = one; own = λ t opens. absurd opens; calls = puts_origins s.table.slots begun s.calls place leg k }

step_asks : (s : Office) (begun : List Entry) (send : Option Outgoing) (id : Option ℕ) (x : steps.Effect) → IsOne begun → AllOwn x.dressed.changes → All (Origin s.table.slots begun) x.outcome.standing.calls → Asks s (with_step s.acks begun send id x)
step_asks s begun send id x one own calls = record { begun = begun; rest = x.dressed.changes; whole = refl; one = one; own = own; calls = calls }

takes_ask : (s : Office) → KnowsAsked s → (e : Setting) (begun : List Entry) (send : Option Outgoing) (id : Option ℕ) (place : ℕ) (input : Input) (leg : Option LegDialog) → IsOne begun → FitsInput input → is_offer_input input ≡ false
    → Asks s (takes s e begun send id place input leg)
takes_ask s k e begun send id place input leg one fits none =
    step_asks s begun send id (takes_row s.calls s.table (occasion s e) place input leg None) one (takes_own s.calls s.table (occasion s e) place input leg None)
    (takes_origins s.table.slots begun s.calls s.table (occasion s e) place k input leg None fits none)

asked_ask : (s : Office) → KnowsAsked s → (e : Setting) (r : Request) (begun : List Entry) (id place : ℕ) (input : Input) (leg : Option LegDialog) (tag : List ℕ) → IsOne begun → FitsInput input → is_offer_input input ≡ false
    → Asks s (takes_request s e r begun id place input leg tag)
asked_ask s k e r begun id place input leg tag one fits none =
    step_asks s begun None None (takes_row s.calls s.table (occasion s e) place input leg _) one (takes_own s.calls s.table (occasion s e) place input leg _)
    (takes_origins s.table.slots begun s.calls s.table (occasion s e) place k input leg _ fits none)

-- the same calls
stopped_asks : (s : Office) (timer : _) (x : Effect) → Asks (without_call_timer timer s) x → Asks s x
stopped_asks s timer x h = record { begun = h.begun; rest = h.rest; whole = h.whole; one = h.one; own = h.own; calls = h.calls }

timer_fits : (timer : CallTimer) → FitsInput (timer_input timer)
timer_fits timers.Limit = tt
timer_fits timers.Repeat = tt
timer_fits timers.Wait = tt
timer_fits timers.Lifetime = tt

timer_offers : (timer : CallTimer) → is_offer_input (timer_input timer) ≡ false
timer_offers timers.Limit = refl
timer_offers timers.Repeat = refl
timer_offers timers.Wait = refl
timer_offers timers.Lifetime = refl

-- ---- a request

-- it alone begins what is another's
begins_parts : (r : Request) (source : Addr) (b : Bool) (t : Transaction) → OpensIn t (cond b Leaves (Opens (served r source) NoTimer) ∷ []) → t.parts ≡ r.parts
begins_parts r source true t opens = absurd opens
begins_parts r source false t (inl e) = ap (λ (x : Transaction). x.parts) (sym e)
begins_parts r source false t (inr opens) = absurd opens

change_parts : (r : Request) (source : Addr) (id : Option ℕ) (t : Transaction) → OpensIn t (request_change r source id ∷ []) → t.parts ≡ r.parts
change_parts r source None t opens = begins_parts r source (is_method (codes "ACK") r.parts) t opens
change_parts r source (Some id) t opens = absurd opens

begun_parts : (s : Office) (e : Setting) (r : Request) (t : Transaction) → OpensIn t (begun_by s e (Kinds.Request r)) → t.parts ≡ r.parts
unfolding change_of
begun_parts s e r t opens = change_parts r e.source (position (is_asked r.parts) s.table.slots) t opens

invite_offers : (parts : Parts) (method : List ℕ) → parts.cseq.method ≡ method → pointwise nat_eq method (codes "INVITE") ≡ true → may_offer parts ≡ true
invite_offers parts method same is = either (is_invite parts) (is_update parts) (subst (λ (name : List ℕ). pointwise nat_eq name (codes "INVITE") ≡ true) (sym same) is)
  where
    either : (a b : Bool) → a ≡ true → (a || b) ≡ true
    either true b h = refl
    either false b h = absurd (cc)

request_rows : (s : Office) → KnowsAsked s → (e : Setting) (bytes : List ℕ) (r : Request) (begun : List Entry) (id : ℕ) (x : Effect) → message_of bytes ≡ Ok (Kinds.Request r) → IsOne begun → at s.table.slots id ≡ None
    → ((t : Transaction) → OpensIn t begun → t.parts ≡ r.parts) → RequestRow s e r begun id x → Asks s x
request_rows s k e bytes r begun id x read one free opens (replied reply why is) = subst (Asks s) (sym is) (reply_asks s k begun id _ (row_reply s e r begun id reply) one)
request_rows s k e bytes r begun id x read one free opens (unfit reason is) = subst (Asks s) (sym is) (reply_asks s k begun id _ (refuses_reply s e r begun id reason) one)
request_rows s k e bytes r begun id x read one free opens (asks_callee to offer why is) =
    subst (Asks s) (sym is)
    (step_asks s begun None None (first_row s.calls (occasion s e) r id e.source to offer) one (first_own s.calls (occasion s e) r id e.source to offer)
    (first_origins s.table.slots begun s.calls (occasion s e) r id e.source to offer k free opens (invite_offers r.parts r.method (same_method bytes r read) why.invite)))
request_rows s k e bytes r begun id x read one free opens (cancelled other place named_is found is) = subst (Asks s) (sym is) (asked_ask s k e r begun id place inputs.Cancel None _ one tt refl)
request_rows s k e bytes r begun id x read one free opens (left place end rule_is is) = subst (Asks s) (sym is) (asked_ask s k e r begun id place (inputs.Bye end) _ _ one tt refl)
request_rows s k e bytes r begun id x read one free opens (counted_alone place end reason why is) =
    subst (Asks s) (sym is) (put_asks s k begun id place (counts s.calls.calls place end r.parts.cseq.number) _ (refuses_reply s e r begun id reason) one)
request_rows s k e bytes r begun id x read one free opens (passed_on place end c offer rule_is why is) =
    subst (Asks s) (sym is)
    (step_asks s begun None None (offers_row s.calls s.table (occasion s e) place (inputs.Offer end (offer_method r) (Some offer)) end r id e.source) one
    (offers_own s.calls s.table (occasion s e) place (inputs.Offer end (offer_method r) (Some offer)) end r id e.source)
    (offers_origins s.table.slots begun s.calls s.table (occasion s e) place k (inputs.Offer end (offer_method r) (Some offer)) end r id e.source free opens (offers_may_offer s.calls.calls r place end rule_is)))
request_rows s k e bytes r begun id x read one free opens (refreshed place end why is) =
    subst (Asks s) (sym is) (put_asks s k begun id place (refreshes s.calls.calls place end r) _ (okay_reply s e r begun id) one)

-- ---- a response

class_by : (a b : Bool) → cond a classes.Provisional (cond b classes.Success classes.Failure) ≡ classes.Provisional → a ≡ true
class_by true b e = refl
class_by false true e = absurd cc
class_by false false e = absurd cc

failure_by : (a b : Bool) → cond a classes.Provisional (cond b classes.Success classes.Failure) ≡ classes.Failure → b ≡ false
failure_by true b e = absurd cc
failure_by false true e = absurd cc
failure_by false false e = refl

response_rows : (s : Office) → KnowsAsked s → (e : Setting) (r : Response) (begun : List Entry) (send : Option Outgoing) (id : ℕ) (t : Transaction) (x : Effect) → IsStatus r.status → IsOne begun → ResponseRow s e r begun send id t x → Asks s x
response_rows s k e r begun send id t x is one (silent eq) = subst (Asks s) (sym eq) (moves_ask s k begun send one)
response_rows s k e r begun send id t x is one (provisional place status c there asked class at_status eq) =
    subst (Asks s) (sym eq) (takes_ask s k e begun send None place (inputs.Provisional status) None one
    (omega (arith, is.low, at_status), omega (arith, at_status, ltb-true r.status 200 (class_by (nat_lt r.status 200) (nat_lt r.status 300) class))) refl)
response_rows s k e r begun send id t x is one (answered place c there asked class eq) =
    subst (Asks s) (sym eq) (takes_ask s k e begun send (Some id) place (inputs.Answer (described r.headers r.body)) (answers_leg s.calls.calls place t.parts r) one tt refl)
response_rows s k e r begun send id t x is one (again place acked eq) = subst (Asks s) (sym eq) (plan_asks s k (acks_again s begun id) begun [] (sym (append-nil begun)) one none_own)
response_rows s k e r begun send id t x is one (fork why eq) =
    subst (Asks s) (sym eq) (step_asks s begun send None (fork_row s.calls (occasion s e) t.parts r) one (fork_own s.calls (occasion s e) t.parts r) (fork_origins s.table.slots begun s.calls (occasion s e) t.parts r k))
response_rows s k e r begun send id t x is one (ack_alone eq) =
    subst (Asks s) (sym eq) (step_asks s begun send None (late_row s.calls (occasion s e) t.parts r) one (late_own s.calls (occasion s e) t.parts r) (late_origins s.table.slots begun s.calls (occasion s e) t.parts r k))
response_rows s k e r begun send id t x is one (refused place status c there asked class at_status eq) =
    subst (Asks s) (sym eq) (takes_ask s k e begun send None place (inputs.Refusal status) None one
    (omega (arith, at_status, ltb-false r.status 300 (failure_by (nat_lt r.status 200) (nat_lt r.status 300) class)), omega (arith, is.high, at_status)) refl)

-- ---- a message, and what is due

message_rows : (s : Office) → KnowsAsked s → (e : Setting) (bytes : List ℕ) (m : Message) (send : Option Outgoing) (x : Effect) → message_of bytes ≡ Ok m → MessageRow s e m (begun_by s e m) send x → Asks s x
message_rows s k e bytes m send x read (dropped taken is) = subst (Asks s) (sym is) (quiet_asks s k taken)
message_rows s k e bytes m send x read (moved is) = subst (Asks s) (sym is) (moves_ask s k (begun_by s e m) send tt)
message_rows s k e bytes m send x read (requested r id is new view) =
    request_rows s k e bytes r (begun_by s e m) id x (subst (λ y. message_of bytes ≡ Ok y) is read) tt (new_begun s e r id (subst (λ y. (reception_of s.table y).verdict ≡ verdicts.New id) is new)).free
    (λ t opens. begun_parts s e r t (subst (λ y. OpensIn t (begun_by s e y)) is opens)) view
message_rows s k e bytes m send x read (acknowledged r place is found view) = subst (Asks s) (sym view) (takes_ask s k e (begun_by s e m) None None place inputs.Ack None tt tt refl)
message_rows s k e bytes m send x read (responded r id t is up to view) =
    response_rows s k e r (begun_by s e m) send id t x (response_status bytes r (subst (λ y. message_of bytes ≡ Ok y) is read)) tt view

datagram_rows : (s : Office) → KnowsAsked s → (e : Setting) (bytes : List ℕ) (x : Effect) → DatagramRow s e bytes x → Asks s x
datagram_rows s k e bytes x (ignored taken is) = subst (Asks s) (sym is) (quiet_asks s k taken)
datagram_rows s k e bytes x (unreadable fault parts unread can is) = subst (Asks s) (sym is) (plan_asks s k _ [] [] refl tt none_own)
datagram_rows s k e bytes x (unfit_branched r read is) = subst (Asks s) (sym is) (plan_asks s k _ [] [] refl tt none_own)
datagram_rows s k e bytes x (was_received m read branch reached view) = message_rows s k e bytes m _ x read view

due_rows : (s : Office) → KnowsAsked s → (e : Setting) (x : Effect) → DueRow s e x → Asks s x
due_rows s k e x (idle is) = subst (Asks s) (sym is) (quiet_asks s k _)
due_rows s k e x (listed users is) = subst (Asks s) (sym is) (plan_asks s k _ [] [] refl tt none_own)
due_rows s k e x (sent_again timer out fired is) = subst (Asks s) (sym is) (moves_ask s k (fire_of timer ∷ []) (Some out) tt)
due_rows s k e x (fired_alone timer fired is) = subst (Asks s) (sym is) (moves_ask s k (fire_of timer ∷ []) None tt)
due_rows s k e x (timed timer t place fired times there found is) = subst (Asks s) (sym is) (takes_ask s k e (fire_of timer ∷ []) None None place inputs.TimedOut None tt tt refl)
due_rows s k e x (ended timer fired is) =
    subst (Asks s) (sym is) (record { begun = fire_of timer ∷ []; rest = []; whole = refl; one = tt; own = none_own; calls = kept_all s.table.slots (fire_of timer ∷ []) s.calls.calls k })
due_rows s k e x (stopped timer is) = subst (Asks s) (sym is) (stopped_asks s timer _ (quiet_moves (without_call_timer timer s) k))
  where
    quiet_moves : (o : Office) → KnowsAsked o → Asks o (of_plan o (moves [] None))
    quiet_moves o known = plan_asks o known (moves [] None) [] [] refl tt none_own
due_rows s k e x (call_fired timer place found is) =
    subst (Asks s) (sym is) (stopped_asks s timer _ (takes_ask (without_call_timer timer s) k e [] None None place (timer_input timer.timer) None tt (timer_fits timer.timer) (timer_offers timer.timer)))

what_rows : (s : Office) → KnowsAsked s → (now salt : ℕ) (what : What) (x : Effect) → WhatRow s now salt what x → Asks s x
what_rows s k now salt what x (came source bytes is view) = datagram_rows s k (setting now salt source) bytes x view
what_rows s k now salt what x (due is view) = due_rows s k (setting now salt no_source) x view

-- ---- an event

event_rows : (s : Contents) → KnowsAsked (office s) → (e : Event) (taken : Option Taken) → Asks (office s) (row_by s e taken)
event_rows s k e (Some taken) = quiet_asks (office s) k taken
event_rows s k e None = what_rows (office s) k (moment_at s e.now) e.salt e.what (what_row (office s) (moment_at s e.now) e.salt e.what) (what_view (office s) (moment_at s e.now) e.salt e.what)

event_asks : (s : Contents) → KnowsAsked (office s) → (e : Event) → Asks (office s) (row s e)
unfolding row
event_asks s k e = event_rows s k e (only_counts s e)

all_asked : (now : ℕ) (s : Office) (x : Effect) → (h : Asks s x) → All (IsServed (entered_all now s.table x.plan.changes).slots) x.calls.standing.calls → All (HasAskerIf (entered_all now s.table x.plan.changes).slots) x.calls.standing.calls
all_asked now s x h served =
    let P : List Entry → Type 0 = λ changes. All (IsServed (entered_all now s.table changes).slots) x.calls.standing.calls in
    let whole = subst P h.whole served in
    subst (λ changes. All (HasAskerIf (entered_all now s.table changes).slots) x.calls.standing.calls) (sym h.whole)
    (λ i d lt. origin_asked now s.table h.begun h.rest (get_or x.calls.standing.calls i d) h.one h.own (whole i d lt) (h.calls i d lt))

asked_by : (s : Contents) (now : ℕ) (x : Effect) → Asks (office s) x → KnowsAskers (office (after_event s now x)) → KnowsAsked (office (after_event s now x))
unfolding after_event
asked_by s now x h askers = all_asked now (office s) x h askers.offers.served

pub after_asked : (s : Contents) (e : Event) → KnowsAskers (office (after s e)) → KnowsAsked (office s) → KnowsAsked (office (after s e))
after_asked s e askers k = asked_by s (moment_after s e) (row s e) (event_asks s k e) askers

pub new_asked : (c : Config) (s : Contents) → IsNew c s → KnowsAsked (office s)
new_asked c s new = subst (All (HasAskerIf s.table.slots)) (sym new.calls) (All-nil (HasAskerIf s.table.slots))
