-- What each event results in: the transactions that it begins are the server's own or others', and the tags of the
-- calls were made.
use Rattle.std.proofs.Common.{◌<◌, ◌^◌, ◌≡◌, ◌∙◌, ℕ, ◌+◌, Bool, true, false, cond, not, List, [], ◌∷◌, codes, Option, Some, None, position, refl, sym, subst, arith}
use Rattle.std.specs.Prelude.{slice_get}
use Rattle.std.proofs.lemmas.Bool.{false≢true, and_parts}
use Rattle.std.proofs.lemmas.Option.{same_Some}
use Rattle.sip_uri.specs.declared.uri.Addr.{Addr}
use Rattle.sip_message.specs.declared.message.Message.{Message}
use Rattle.sip_message.specs.declared.message.Message.TheVariants as Kinds
use Rattle.sip_message.specs.declared.message.Parts.{Parts}
use Rattle.sip_message.specs.declared.message.Request.{Request}
use Rattle.sip_message.specs.declared.message.Response.{Response}
use Rattle.sip_message.specs.Words.{is_method, tag_text, tag_value}
use Rattle.transaction_machines.specs.declared.invite_server.InviteServer.TheVariants as invite_server
use Rattle.transaction_machines.specs.declared.other_server.OtherServer.TheVariants as other_server
use Rattle.transaction_machines.specs.declared.state.State.TheVariants as machine
use Rattle.transaction_machines.specs.declared.step.Starts.TheVariants.{NoTimer}
use Rattle.transaction_machines.specs.Machines.{is_server}
use Rattle.transactions.specs.declared.change.Entry.{Entry}
use Rattle.transactions.specs.declared.change.Entry.TheVariants.{Leaves, Opens}
use Rattle.transactions.specs.declared.outcome.Outgoing.{Outgoing}
use Rattle.transactions.specs.declared.transaction.TimerId.{TimerId}
use Rattle.transactions.specs.declared.transaction.Transaction.{Transaction}
use Rattle.transactions.specs.Changes.{answer_of, change_of, fire_of, request_change, response_change}
use Rattle.transactions.specs.Slots.{is_answered, is_asked}
use Rattle.transactions.specs.Transactions.{served}
use Rattle.call_media.specs.declared.end.End.{End}
use Rattle.call_core.specs.declared.input.Input.TheVariants as inputs
use Rattle.calls.specs.Changes.{unchanged}
use Rattle.calls.specs.declared.change.LegDialog.{LegDialog}
use Rattle.calls.specs.declared.standing_call.StandingCall.{StandingCall}
use Rattle.calls.specs.declared.timer_id.CallTimerId.{CallTimerId}
use Rattle.call_rules.specs.Content.{described}
use Rattle.call_rules.specs.Responses.{is_open}
use Rattle.call_steps.specs.Effects as steps
use Rattle.call_steps.specs.Rows.{answers_leg, counts, refreshes}
use Rattle.events.specs.declared.event.What.{What}
use Rattle.plans.specs.Office.{Office}
use Rattle.plans.specs.declared.setting.Setting.{Setting}
use Rattle.plans.specs.declared.taken.Taken.{Taken}
use Rattle.plans.specs.CallRows.{acks_again, counted, occasion, of_plan, okay_plan, puts_if, takes, takes_request, timer_input, with_step, without_call_timer}
use Rattle.plans.specs.Effect.{Effect}
use Rattle.plans.specs.Plan.{Plan, moves, nothing}
use Rattle.plans.specs.Replies.{refuses_for}
use Rattle.event_rows.specs.Rows.{no_source, setting, what_row}
use Rattle.message_laws.specs.Entries.{EnterOwn, EntersOwn}
use Rattle.message_laws.specs.Knowing.{KnowsCalls, KnowsTokens}
use Rattle.message_laws.specs.Tokens.{IsMade, IsOwn}
use Rattle.message_laws.proofs.TokenUse.Calls.{FitsLeg, changed_by}
use Rattle.message_laws.proofs.QuietEvents.Growing.{calls_more, entries_append}
use Rattle.message_laws.proofs.TokenUse.Slots.{own_at}
use Rattle.message_laws.proofs.TokenUse.TaggedSteps.{OwnStep, answers_fits, counts_fits, first_own, fork_own, late_own, offers_own, refreshes_fits, takes_own}
use Rattle.message_laws.proofs.Messages.Replying.{IsReply, okay_reply, refuses_reply, row_reply}
use Rattle.message_laws.proofs.Messages.RequestViews.{RequestRow, asks_callee, cancelled, counted_alone, left, passed_on, refreshed, replied, unfit}
use Rattle.message_laws.proofs.Messages.ResponseViews.{ResponseRow, ack_alone, again, answered, fork, provisional, refused, silent}
use Rattle.message_laws.proofs.Messages.MessageViews.{MessageRow, acknowledged, begun_by, dropped, moved, requested, responded}
use Rattle.message_laws.proofs.Messages.Views.{DatagramRow, DueRow, WhatRow, call_fired, came, due, ended, fired_alone, idle, listed, ignored, sent_again, stopped, timed, unfit_branched, unreadable, was_received, what_view}

-- ---- an effect

pub record OwnEffect (s : Office) (x : Effect) : Type 0 where
  pub entries : EnterOwn (s.tokens + x.plan.made) x.plan.changes
  pub calls : KnowsCalls (s.tokens + x.plan.made) x.calls.standing.calls

-- what the transactions do by themselves begins none of the server's own
abbrev pub BeginsNone : List Entry → Type 0
BeginsNone begun = (m : ℕ) → EnterOwn m begun

plan_owns : (s : Office) → KnowsTokens s → (p : Plan) → EnterOwn (s.tokens + p.made) p.changes → OwnEffect s (of_plan s p)
plan_owns s k p h = record { entries = h; calls = calls_more s.tokens (s.tokens + p.made) s.calls.calls (omega arith) k.calls }

nothing_owns : (s : Office) → KnowsTokens s → (taken : Taken) → OwnEffect s (of_plan s (nothing taken))
nothing_owns s k taken = plan_owns s k (nothing taken) tt

moves_owns : (s : Office) → KnowsTokens s → (begun : List Entry) (send : Option Outgoing) → BeginsNone begun → OwnEffect s (of_plan s (moves begun send))
moves_owns s k begun send b = plan_owns s k (moves begun send) (b (s.tokens + 0))

step_owns : (s : Office) (begun : List Entry) (send : Option Outgoing) (id : Option ℕ) (x : steps.Effect) → BeginsNone begun → OwnStep s.tokens x
    → OwnEffect s (with_step s.acks begun send id x)
step_owns s begun send id x b own = record {
  entries = entries_append (s.tokens + x.dressed.made) begun x.dressed.changes (b (s.tokens + x.dressed.made)) own.entries;
  calls = own.calls;
}

-- ---- replies

abbrev IsOwnPlan : Office → Plan → Type 0
IsOwnPlan s p = EnterOwn (s.tokens + p.made) p.changes

-- a response through a transaction
reply_own : (s : Office) (begun : List Entry) (id : ℕ) (p : Plan) → IsReply begun id p → BeginsNone begun → IsOwnPlan s p
reply_own s begun id p is b =
    let m = s.tokens + p.made in
    subst (EnterOwn m) (sym is.changes) (entries_append m begun (answer_of id is.response ∷ []) (b m) (tt, tt))

reply_owns : (s : Office) → KnowsTokens s → (begun : List Entry) (id : ℕ) (p : Plan) → IsReply begun id p → BeginsNone begun → OwnEffect s (of_plan s p)
reply_owns s k begun id p is b = plan_owns s k p (reply_own s begun id p is b)

-- ---- a call takes an input

takes_owns : (s : Office) → KnowsTokens s → (e : Setting) (begun : List Entry) (send : Option Outgoing) (id : Option ℕ) (place : ℕ) (input : _) (leg : Option LegDialog) → BeginsNone begun
    → ((d : StandingCall) → slice_get s.calls.calls place ≡ Some d → FitsLeg s.tokens d leg) → OwnEffect s (takes s e begun send id place input leg)
takes_owns s k e begun send id place input leg b fits =
    step_owns s begun send id _ b (takes_own s.calls s.table (occasion s e) place input leg None k.slots k.calls fits)

request_owns : (s : Office) → KnowsTokens s → (e : Setting) (r : Request) (begun : List Entry) (id place : ℕ) (input : _) (leg : Option LegDialog) (tag : List ℕ) → BeginsNone begun
    → ((d : StandingCall) → slice_get s.calls.calls place ≡ Some d → FitsLeg s.tokens d leg) → OwnEffect s (takes_request s e r begun id place input leg tag)
request_owns s k e r begun id place input leg tag b fits =
    step_owns s begun None None _ b (takes_own s.calls s.table (occasion s e) place input leg _ k.slots k.calls fits)

-- ---- a request in a dialog

puts_own : (s : Office) → KnowsTokens s → (m place : ℕ) (leg : Option LegDialog) → ((d : StandingCall) → slice_get s.calls.calls place ≡ Some d → FitsLeg m d leg)
    → KnowsCalls m s.calls.calls → KnowsCalls m (puts_if s.calls place leg).calls
puts_own s k m place None fits all = all
puts_own s k m place (Some leg) fits all = changed_by m leg place s.calls.calls (slice_get s.calls.calls place) refl fits all

counted_owns : (s : Office) → KnowsTokens s → (r : Request) (place : ℕ) (end : End) (p : Plan) → IsOwnPlan s p → OwnEffect s (counted s r place end p)
counted_owns s k r place end p own =
    let m = s.tokens + p.made in
    let all = calls_more s.tokens m s.calls.calls (omega arith) k.calls in
    record {
      entries = own;
      calls = puts_own s k m place (counts s.calls.calls place end r.parts.cseq.number) (λ d there. counts_fits m s.calls.calls place end r.parts.cseq.number d all there) all;
    }

-- it is a response to a request of the server's own
pub answered_client : (parts : Parts) (t : Transaction) → is_answered parts (Some t) ≡ true → is_server t.state ≡ false
unfolding is_answered
answered_client parts t h = not_true (is_server t.state) (and_parts _ _ h).0
  where
    not_true : (b : Bool) → not b ≡ true → b ≡ false
    not_true true e = absurd (false≢true e)
    not_true false e = refl

-- ---- what the transactions do with a message

pub served_by : (b : Bool) → is_server (cond b (machine.InviteServer invite_server.Proceeding) (machine.OtherServer other_server.Trying)) ≡ true
served_by true = refl
served_by false = refl

served_own : (m : ℕ) (r : Request) (source : Addr) → IsOwn m (served r source)
served_own m r source client = absurd (false≢true (sym client ∙ served_by (is_method (codes "INVITE") r.parts)))

change_own_by : (m : ℕ) (r : Request) (source : Addr) (b : Bool) → EntersOwn m (cond b Leaves (Opens (served r source) NoTimer))
change_own_by m r source true = tt
change_own_by m r source false = served_own m r source

request_change_own : (m : ℕ) (r : Request) (source : Addr) (id : Option ℕ) → EntersOwn m (request_change r source id)
request_change_own m r source None = change_own_by m r source (is_method (codes "ACK") r.parts)
request_change_own m r source (Some id) = tt

response_change_own : (s : Office) (m : ℕ) (r : Response) (id : Option ℕ) → EntersOwn m (response_change s.table r id)
response_change_own s m r None = tt
response_change_own s m r (Some id) = tt

change_own : (s : Office) (m : ℕ) (message : Message) (source : Addr) → EntersOwn m (change_of s.table message source)
unfolding change_of
change_own s m (Kinds.Request r) source = request_change_own m r source (position (is_asked r.parts) s.table.slots)
change_own s m (Kinds.Response r) source = response_change_own s m r (position (is_answered r.parts) s.table.slots)

fire_begins_none : (timer : TimerId) → BeginsNone (fire_of timer ∷ [])
fire_begins_none timer m = (tt, tt)

-- the same calls, transactions and tokens
stopped_knows : (s : Office) → KnowsTokens s → (timer : CallTimerId) → KnowsTokens (without_call_timer timer s)
stopped_knows s k timer = record { slots = k.slots; calls = k.calls }

refreshed_owns : (s : Office) → KnowsTokens s → (e : Setting) (r : Request) (begun : List Entry) (id place : ℕ) (end : End) → BeginsNone begun
    → OwnEffect s (record { plan = okay_plan s e r begun id; calls = unchanged (puts_if s.calls place (refreshes s.calls.calls place end r)); acks = s.acks })
refreshed_owns s k e r begun id place end b =
    let m = s.tokens + (okay_plan s e r begun id).made in
    record {
      entries = reply_own s begun id (okay_plan s e r begun id) (okay_reply s e r begun id) b;
      calls = puts_own s k m place (refreshes s.calls.calls place end r) (λ d there. refreshes_fits m s.calls.calls place end r d (calls_more s.tokens m s.calls.calls (omega arith) k.calls) there)
          (calls_more s.tokens m s.calls.calls (omega arith) k.calls);
    }

-- ---- the rows

abbrev Owns : Office → Effect → Type 0
Owns s x = OwnEffect s x

-- no dialog comes
no_leg : (s : Office) (place : ℕ) (d : StandingCall) → slice_get s.calls.calls place ≡ Some d → FitsLeg s.tokens d None
no_leg s place d there = tt

request_rows : (s : Office) → KnowsTokens s → s.tokens < 2 ^ 63 → (e : Setting) (r : Request) (begun : List Entry) (id : ℕ) (x : Effect) → BeginsNone begun → RequestRow s e r begun id x → Owns s x
request_rows s k few e r begun id x b (replied reply why is) = subst (Owns s) (sym is) (reply_owns s k begun id _ (row_reply s e r begun id reply) b)
request_rows s k few e r begun id x b (unfit reason is) = subst (Owns s) (sym is) (reply_owns s k begun id _ (refuses_reply s e r begun id reason) b)
request_rows s k few e r begun id x b (asks_callee to offer why is) =
    subst (Owns s) (sym is) (step_owns s begun None None _ b (first_own s.calls (occasion s e) r id e.source to offer (no_tag_text r.parts why.no_tag) few k.calls))
  where
    no_tag_text : (parts : Parts) → tag_value parts.to.params ≡ None → tag_text parts.to.params ≡ []
    no_tag_text parts none = rw none refl
request_rows s k few e r begun id x b (cancelled other place named_is found is) = subst (Owns s) (sym is) (request_owns s k e r begun id place inputs.Cancel None _ b (no_leg s place))
request_rows s k few e r begun id x b (left place end rule_is is) =
    subst (Owns s) (sym is) (
    request_owns s k e r begun id place (inputs.Bye end) (counts s.calls.calls place end r.parts.cseq.number) _ b
    (λ d there. counts_fits s.tokens s.calls.calls place end r.parts.cseq.number d k.calls there)
    )
request_rows s k few e r begun id x b (counted_alone place end reason why is) = subst (Owns s) (sym is) (counted_owns s k r place end (refuses_for s e r begun id reason) (reply_own s begun id _ (refuses_reply s e r begun id reason) b))
request_rows s k few e r begun id x b (passed_on place end c offer rule_is why is) =
    subst (Owns s) (sym is) (step_owns s begun None None _ b (offers_own s.calls s.table (occasion s e) place _ end r id e.source k.slots k.calls))
request_rows s k few e r begun id x b (refreshed place end rule_is is) = subst (Owns s) (sym is) (refreshed_owns s k e r begun id place end b)

response_rows : (s : Office) → KnowsTokens s → (e : Setting) (r : Response) (begun : List Entry) (send : Option Outgoing) (id : ℕ) (t : Transaction) (x : Effect)
    → IsMade s.tokens (tag_text t.parts.from.params) → BeginsNone begun → ResponseRow s e r begun send id t x → Owns s x
response_rows s k e r begun send id t x tag b (silent is) = subst (Owns s) (sym is) (moves_owns s k begun send b)
response_rows s k e r begun send id t x tag b (provisional place status c there opens class at_status is) =
    subst (Owns s) (sym is) (takes_owns s k e begun send None place (inputs.Provisional status) None b (no_leg s place))
response_rows s k e r begun send id t x tag b (answered place c there opens class is) =
    subst (Owns s) (sym is) (
    takes_owns s k e begun send (Some id) place (inputs.Answer (described r.headers r.body)) (answers_leg s.calls.calls place t.parts r) b
    (λ d at_d. answers_fits s.tokens s.calls.calls place t.parts r d k.calls at_d (subst (λ y. is_open t.parts y ≡ true) (same_Some c d (sym there ∙ at_d)) opens.waits))
    )
response_rows s k e r begun send id t x tag b (again place acked is) = subst (Owns s) (sym is) (plan_owns s k (acks_again s begun id) (b (s.tokens + 0)))
response_rows s k e r begun send id t x tag b (fork why is) = subst (Owns s) (sym is) (step_owns s begun send None _ b (fork_own s.calls (occasion s e) t.parts r tag k.calls))
response_rows s k e r begun send id t x tag b (ack_alone is) = subst (Owns s) (sym is) (step_owns s begun send None _ b (late_own s.calls (occasion s e) t.parts r tag k.calls))
response_rows s k e r begun send id t x tag b (refused place status c there opens class at_status is) =
    subst (Owns s) (sym is) (takes_owns s k e begun send None place (inputs.Refusal status) None b (no_leg s place))

message_rows : (s : Office) → KnowsTokens s → s.tokens < 2 ^ 63 → (e : Setting) (m : Message) (begun : List Entry) (send : Option Outgoing) (x : Effect) → BeginsNone begun → MessageRow s e m begun send x → Owns s x
message_rows s k few e m begun send x b (dropped taken is) = subst (Owns s) (sym is) (nothing_owns s k taken)
message_rows s k few e m begun send x b (moved is) = subst (Owns s) (sym is) (moves_owns s k begun send b)
message_rows s k few e m begun send x b (requested r id is new row) = request_rows s k few e r begun id x b row
message_rows s k few e m begun send x b (acknowledged r place is found row_is) = subst (Owns s) (sym row_is) (takes_owns s k e begun None None place inputs.Ack None b (no_leg s place))
message_rows s k few e m begun send x b (responded r id t is up to row) =
    response_rows s k e r begun send id t x (own_at s.tokens s.table.slots id t k.slots to.there (answered_client r.parts t to.answers)).tag b row

datagram_rows : (s : Office) → KnowsTokens s → s.tokens < 2 ^ 63 → (e : Setting) (bytes : List ℕ) (x : Effect) → DatagramRow s e bytes x → Owns s x
datagram_rows s k few e bytes x (ignored taken is) = subst (Owns s) (sym is) (nothing_owns s k taken)
datagram_rows s k few e bytes x (unreadable fault parts unread can is) = subst (Owns s) (sym is) (plan_owns s k _ tt)
datagram_rows s k few e bytes x (unfit_branched r read is) = subst (Owns s) (sym is) (plan_owns s k _ tt)
datagram_rows s k few e bytes x (was_received m read branch reached row) = message_rows s k few e m (begun_by s e m) _ x (λ n. (change_own s n m e.source, tt)) row

due_rows : (s : Office) → KnowsTokens s → (e : Setting) (x : Effect) → DueRow s e x → Owns s x
due_rows s k e x (idle is) = subst (Owns s) (sym is) (nothing_owns s k _)
due_rows s k e x (listed users is) = subst (Owns s) (sym is) (plan_owns s k _ tt)
due_rows s k e x (sent_again timer out fired is) = subst (Owns s) (sym is) (moves_owns s k (fire_of timer ∷ []) (Some out) (fire_begins_none timer))
due_rows s k e x (fired_alone timer fired is) = subst (Owns s) (sym is) (moves_owns s k (fire_of timer ∷ []) None (fire_begins_none timer))
due_rows s k e x (timed timer t place fired times there found is) =
    subst (Owns s) (sym is) (takes_owns s k e (fire_of timer ∷ []) None None place inputs.TimedOut None (fire_begins_none timer) (no_leg s place))
due_rows s k e x (ended timer fired is) = subst (Owns s) (sym is) (record { entries = (tt, tt); calls = calls_more s.tokens (s.tokens + 0) s.calls.calls (omega arith) k.calls })
due_rows s k e x (stopped timer is) =
    let own = moves_owns (without_call_timer timer s) (stopped_knows s k timer) [] None (λ n. tt) in
    subst (Owns s) (sym is) (record { entries = own.entries; calls = own.calls })
due_rows s k e x (call_fired timer place found is) =
    let own = takes_owns (without_call_timer timer s) (stopped_knows s k timer) e [] None None place (timer_input timer.timer) None (λ n. tt) (no_leg s place) in
    subst (Owns s) (sym is) (record { entries = own.entries; calls = own.calls })

what_rows : (s : Office) → KnowsTokens s → s.tokens < 2 ^ 63 → (now salt : ℕ) (what : What) (x : Effect) → WhatRow s now salt what x → Owns s x
what_rows s k few now salt what x (came source bytes is row) = datagram_rows s k few (setting now salt source) bytes x row
what_rows s k few now salt what x (due is row) = due_rows s k (setting now salt no_source) x row

pub what_owns : (s : Office) → KnowsTokens s → s.tokens < 2 ^ 63 → (now salt : ℕ) (what : What) → OwnEffect s (what_row s now salt what)
what_owns s k few now salt what = what_rows s k few now salt what (what_row s now salt what) (what_view s now salt what)
