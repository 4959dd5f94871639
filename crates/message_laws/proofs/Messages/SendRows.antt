-- What the agent would send again after an event was sent in it or before.
use Rattle.std.proofs.Common.{◌≡◌, ◌∙◌, ℕ, true, false, not, List, [], ◌∷◌, ◌++◌, nat_le, nat_lt, position, Option, Some, None, refl, ap, sym, subst, inl, inr, arith}
use Rattle.std.specs.Prelude.{slice_get, ◌==◌}
use Rattle.std.specs.List.{All}
use Rattle.std.proofs.lemmas.Bool.{and_parts, le-ltb, leb-true, lt-ltb}
use Rattle.std.proofs.lemmas.List.Elements.{All-filter, All-nil, All-push}
use Rattle.configuration.specs.declared.config.Config.{Config}
use Rattle.events.specs.declared.event.Event.{Event}
use Rattle.events.specs.declared.event.What.{What}
use Rattle.events.specs.declared.sent.Sent.{Sent}
use Rattle.sip_message.specs.declared.message.Message.{Message}
use Rattle.sip_message.specs.declared.message.Message.TheVariants as Kinds
use Rattle.sip_message.specs.declared.message.Request.{Request}
use Rattle.sip_message.specs.declared.message.Response.{Response}
use Rattle.sip_message.specs.declared.words.Class.TheVariants.{Success}
use Rattle.sip_message.specs.Contact.{is_success}
use Rattle.sip_message.specs.Words.{class_of}
use Rattle.transaction_machines.specs.declared.input.Input.TheVariants as machine_inputs
use Rattle.transaction_machines.specs.declared.invite_client.InviteClient.{InviteClient}
use Rattle.transaction_machines.specs.declared.invite_client.InviteClient.TheVariants as clients
use Rattle.transaction_machines.specs.declared.invite_server.InviteServer.{InviteServer}
use Rattle.transaction_machines.specs.declared.invite_server.InviteServer.TheVariants as servers
use Rattle.transaction_machines.specs.declared.other_client.OtherClient.{OtherClient}
use Rattle.transaction_machines.specs.declared.other_client.OtherClient.TheVariants as others
use Rattle.transaction_machines.specs.declared.other_server.OtherServer.{OtherServer}
use Rattle.transaction_machines.specs.declared.other_server.OtherServer.TheVariants as served_states
use Rattle.transaction_machines.specs.declared.state.State.{State}
use Rattle.transaction_machines.specs.declared.step.Sending.TheVariants.{Nothing}
use Rattle.transaction_machines.specs.declared.step.Step.{Step}
use Rattle.transaction_machines.specs.InviteClient.{invite_client_row}
use Rattle.transaction_machines.specs.InviteServer.{invite_server_row}
use Rattle.transaction_machines.specs.Machines.{row_of}
use Rattle.transaction_machines.specs.OtherClient.{other_client_row}
use Rattle.transaction_machines.specs.OtherServer.{other_server_row}
use Rattle.transaction_machines.specs.declared.state.State.TheVariants as machine
use Rattle.transactions.specs.declared.change.Entry.{Entry}
use Rattle.transactions.specs.declared.outcome.Outgoing.{Outgoing}
use Rattle.transactions.specs.declared.transaction.Transaction.{Transaction}
use Rattle.transactions.specs.Changes.{answer_of, change_of, fire_of, response_change}
use Rattle.transactions.specs.Contents.{ack_at, ack_by, reception_of, response_input}
use Rattle.transactions.specs.Slots.{at, is_answered, is_asked}
use Rattle.call_media.specs.declared.end.End.{End}
use Rattle.call_core.specs.declared.input.Input.TheVariants as inputs
use Rattle.calls.specs.Changes.{unchanged}
use Rattle.calls.specs.declared.change.LegDialog.{LegDialog}
use Rattle.calls.specs.declared.timer_id.CallTimerId.{CallTimerId}
use Rattle.call_rules.specs.Content.{described}
use Rattle.call_rules.specs.Speaking.{is_acknowledged}
use Rattle.call_steps.specs.Effects as steps
use Rattle.call_steps.specs.Rows.{answers_leg, counts, refreshes}
use Rattle.plans.specs.declared.acks.KeptAck.{KeptAck}
use Rattle.plans.specs.Office.{Office}
use Rattle.plans.specs.declared.setting.Setting.{Setting}
use Rattle.plans.specs.declared.taken.Taken.{Taken}
use Rattle.plans.specs.CallRows.{acks_again, acks_with, counted, occasion, of_plan, okay_plan, puts_if, takes, takes_request, timer_input, with_step, without_call_timer}
use Rattle.plans.specs.Effect.{Effect, without_ack}
use Rattle.plans.specs.Plan.{Plan, goes, moves, nothing, sent_response}
use Rattle.plans.specs.Replies.{refuses_for, reply_row}
use Rattle.event_rows.specs.Rows.{after, moment_after, no_source, only_counts, row, row_by, setting, what_row}
use Rattle.event_rows.specs.State.{Contents, IsNew, after_event, moment_at, office}
use Rattle.message_laws.specs.Sending.{AckWasSent, AnswerWasSent, CallWasSent, KnowsSent, LastWasSent, WasSentIf}
use Rattle.message_laws.proofs.Messages.KeptSends.{EntriesWereSent, Within, acks_within, all_entered_last, calls_within, entries_joined, entries_within, EntryWasSent, message_sent, request_change_sent, sent_left, sent_right, slots_within}
use Rattle.message_laws.proofs.Messages.SendSteps.{SentStep, changed_sent, first_sends, fork_sends, late_sends, offers_sent, takes_sent}
use Rattle.message_laws.proofs.Messages.Replying.{IsReply, okay_reply, refuses_reply, row_reply}
use Rattle.message_laws.proofs.Messages.RequestViews.{RequestRow, asks_callee, cancelled, counted_alone, left, passed_on, refreshed, replied, unfit}
use Rattle.message_laws.proofs.Messages.ResponseViews.{ResponseRow, ack_alone, again, answered, fork, provisional, refused, silent}
use Rattle.message_laws.proofs.Messages.MessageViews.{IsResponseTo, ReceivedRow, acknowledged, begun_by, dropped, moved, requested, responded}
use Rattle.message_laws.proofs.Messages.Views.{DatagramRow, DueRow, WhatRow, call_fired, came, due, ended, fired_alone, idle, listed, ignored, sent_again, stopped, timed, unfit_branched, unreadable, was_received, what_view}

-- ---- an effect, after what was sent before

pub record SentEffect (before : List Sent) (x : Effect) : Type 0 where
  pub entries : EntriesWereSent x.plan.sends x.plan.changes
  pub acks : All (AckWasSent (before ++ x.plan.sends)) x.acks
  pub calls : All (CallWasSent (before ++ x.plan.sends)) x.calls.standing.calls

-- what the transactions do by themselves, and send
abbrev GoWith : Option Outgoing → List Entry → Type 0
GoWith send begun = EntriesWereSent (goes send) begun

-- what begins transactions of others alone
abbrev GoAlone : List Entry → Type 0
GoAlone begun = EntriesWereSent [] begun

plan_sent : (before : List Sent) (s : Office) → KnowsSent s before → (p : Plan) → EntriesWereSent p.sends p.changes → SentEffect before (of_plan s p)
plan_sent before s k p h = record {
  entries = h;
  acks = acks_within before (before ++ p.sends) s.acks (sent_left before p.sends) k.acks;
  calls = calls_within before (before ++ p.sends) s.calls.calls (sent_left before p.sends) k.calls;
}

none_within : (xs : List Sent) → Within [] xs
none_within xs bytes h = absurd h

-- ---- the ACKs

without_sent : (all : List Sent) (id : ℕ) (acks : List KeptAck) → All (AckWasSent all) acks → All (AckWasSent all) (without_ack id acks)
without_sent all id acks each = All-filter (λ (a : KeptAck). not (a.id == id)) (AckWasSent all) acks each

acks_sent : (all : List Sent) (acks : List KeptAck) (id : Option ℕ) (ack : Option Sent) → AnswerWasSent all ack → All (AckWasSent all) acks → All (AckWasSent all) (acks_with acks id ack)
acks_sent all acks None ack h each = each
acks_sent all acks (Some id) None h each = each
acks_sent all acks (Some id) (Some ack) h each = All-push (AckWasSent all) (without_ack id acks) (record { id = id; sent = ack }) (without_sent all id acks each) h

answer_as : (xs ys : List Sent) (answer : Option Sent) → Within xs ys → AnswerWasSent xs answer → AnswerWasSent ys answer
answer_as xs ys None w h = h
answer_as xs ys (Some answer) w h = w answer.bytes h

-- ---- a step of a call, after what the transactions send

within_step : (before sends : List Sent) (own : List Sent) → Within (before ++ own) (before ++ (sends ++ own))
within_step [] sends own bytes h = sent_right sends own bytes h
within_step (x ∷ before) sends own bytes (inl h) = inl h
within_step (x ∷ before) sends own bytes (inr h) = inr (within_step before sends own bytes h)

step_sent : (before : List Sent) (s : Office) → KnowsSent s before → (begun : List Entry) (send : Option Outgoing) (id : Option ℕ) (x : steps.Effect) → GoWith send begun → SentStep before x
    → SentEffect before (with_step s.acks begun send id x)
step_sent before s k begun send id x b own =
    let own_sends = x.dressed.sends in
    let sends = goes send ++ own_sends in
    let all = before ++ sends in
    record {
      entries = entries_joined sends begun x.dressed.changes (entries_within (goes send) sends begun (sent_left (goes send) own_sends) b)
          (entries_within own_sends sends x.dressed.changes (sent_right (goes send) own_sends) own.entries);
      acks = acks_sent all s.acks id x.ack (answer_as own_sends all x.ack (λ bytes h. sent_right before sends bytes (sent_right (goes send) own_sends bytes h)) own.ack)
          (acks_within before all s.acks (sent_left before sends) k.acks);
      calls = calls_within (before ++ own_sends) all x.outcome.standing.calls (within_step before (goes send) own_sends) own.calls;
    }

takes_goes : (before : List Sent) (s : Office) → KnowsSent s before → (e : Setting) (begun : List Entry) (send : Option Outgoing) (id : Option ℕ) (place : ℕ) (input : _) (leg : Option LegDialog) → GoWith send begun
    → SentEffect before (takes s e begun send id place input leg)
takes_goes before s k e begun send id place input leg b = step_sent before s k begun send id _ b (takes_sent before s.calls s.table (occasion s e) place input leg None k.calls)

request_goes : (before : List Sent) (s : Office) → KnowsSent s before → (e : Setting) (r : Request) (begun : List Entry) (id place : ℕ) (input : _) (leg : Option LegDialog) (tag : List ℕ) → GoAlone begun
    → SentEffect before (takes_request s e r begun id place input leg tag)
request_goes before s k e r begun id place input leg tag b = step_sent before s k begun None None _ b (takes_sent before s.calls s.table (occasion s e) place input leg _ k.calls)

-- ---- replies

abbrev IsSentPlan : Plan → Type 0
IsSentPlan p = EntriesWereSent p.sends p.changes

-- a response through a transaction
reply_sent : (begun : List Entry) (id : ℕ) (p : Plan) → IsReply begun id p → GoAlone begun → IsSentPlan p
reply_sent begun id p is b =
    let sends = sent_response is.to is.response ∷ [] in
    let entries = entries_joined sends begun (answer_of id is.response ∷ []) (entries_within [] sends begun (none_within sends) b) (inl refl, tt) in
    subst (λ xs. EntriesWereSent xs p.changes) (sym is.sends) (subst (EntriesWereSent sends) (sym is.changes) entries)

puts_sent : (all : List Sent) (s : Office) (place : ℕ) (leg : Option LegDialog) → All (CallWasSent all) s.calls.calls → All (CallWasSent all) (puts_if s.calls place leg).calls
puts_sent all s place None each = each
puts_sent all s place (Some leg) each = changed_sent all leg place s.calls.calls (slice_get s.calls.calls place) refl each

counted_sent : (before : List Sent) (s : Office) → KnowsSent s before → (r : Request) (place : ℕ) (end : End) (p : Plan) → IsSentPlan p → SentEffect before (counted s r place end p)
counted_sent before s k r place end p h = record {
  entries = h;
  acks = acks_within before (before ++ p.sends) s.acks (sent_left before p.sends) k.acks;
  calls = puts_sent (before ++ p.sends) s place (counts s.calls.calls place end r.parts.cseq.number) (calls_within before (before ++ p.sends) s.calls.calls (sent_left before p.sends) k.calls);
}

refreshed_sent : (before : List Sent) (s : Office) → KnowsSent s before → (e : Setting) (r : Request) (begun : List Entry) (id place : ℕ) (end : End) → GoAlone begun
    → SentEffect before (record { plan = okay_plan s e r begun id; calls = unchanged (puts_if s.calls place (refreshes s.calls.calls place end r)); acks = s.acks })
refreshed_sent before s k e r begun id place end b =
    let all = before ++ (okay_plan s e r begun id).sends in
    record {
      entries = reply_sent begun id _ (okay_reply s e r begun id) b;
      acks = acks_within before all s.acks (sent_left before _) k.acks;
      calls = puts_sent all s place (refreshes s.calls.calls place end r) (calls_within before all s.calls.calls (sent_left before _) k.calls);
    }

-- ---- the rows

request_goes_by : (before : List Sent) (s : Office) → KnowsSent s before → (e : Setting) (r : Request) (begun : List Entry) (id : ℕ) (x : Effect) → GoAlone begun → RequestRow s e r begun id x
    → SentEffect before x
request_goes_by before s k e r begun id x b (replied reply why is) = subst (SentEffect before) (sym is) (plan_sent before s k (reply_row s e r begun id reply) (reply_sent begun id _ (row_reply s e r begun id reply) b))
request_goes_by before s k e r begun id x b (unfit reason is) =
    subst (SentEffect before) (sym is) (plan_sent before s k (refuses_for s e r begun id reason) (reply_sent begun id _ (refuses_reply s e r begun id reason) b))
request_goes_by before s k e r begun id x b (asks_callee to offer why is) =
    subst (SentEffect before) (sym is) (step_sent before s k begun None None _ b (first_sends before s.calls (occasion s e) r id e.source to offer k.calls))
request_goes_by before s k e r begun id x b (cancelled other place named_is found is) = subst (SentEffect before) (sym is) (request_goes before s k e r begun id place inputs.Cancel None _ b)
request_goes_by before s k e r begun id x b (left place end rule_is is) =
    subst (SentEffect before) (sym is) (request_goes before s k e r begun id place (inputs.Bye end) (counts s.calls.calls place end r.parts.cseq.number) _ b)
request_goes_by before s k e r begun id x b (counted_alone place end reason why is) =
    subst (SentEffect before) (sym is) (counted_sent before s k r place end (refuses_for s e r begun id reason) (reply_sent begun id _ (refuses_reply s e r begun id reason) b))
request_goes_by before s k e r begun id x b (passed_on place end c offer rule_is why is) =
    subst (SentEffect before) (sym is) (step_sent before s k begun None None _ b (offers_sent before s.calls s.table (occasion s e) place _ end r id e.source k.calls))
request_goes_by before s k e r begun id x b (refreshed place end rule_is is) = subst (SentEffect before) (sym is) (refreshed_sent before s k e r begun id place end b)

-- what is sent again for a 2xx is the ACK alone: the transaction sends nothing
response_goes_by : (before : List Sent) (s : Office) → KnowsSent s before → (e : Setting) (r : Response) (begun : List Entry) (send : Option Outgoing) (id : ℕ) (t : Transaction) (x : Effect) → GoWith send begun
    → ((place : ℕ) → is_acknowledged t.parts r ≡ true → GoAlone begun) → ResponseRow s e r begun send id t x → SentEffect before x
response_goes_by before s k e r begun send id t x b quiet (silent is) = subst (SentEffect before) (sym is) (plan_sent before s k (moves begun send) b)
response_goes_by before s k e r begun send id t x b quiet (provisional place status c there opens class at_status is) =
    subst (SentEffect before) (sym is) (takes_goes before s k e begun send None place (inputs.Provisional status) None b)
response_goes_by before s k e r begun send id t x b quiet (answered place c there opens class is) =
    subst (SentEffect before) (sym is) (takes_goes before s k e begun send (Some id) place (inputs.Answer (described r.headers r.body)) (answers_leg s.calls.calls place t.parts r) b)
response_goes_by before s k e r begun send id t x b quiet (again place acked is) =
    subst (SentEffect before) (sym is) (plan_sent before s k (acks_again s begun id) (entries_within [] _ begun (none_within _) (quiet place acked)))
response_goes_by before s k e r begun send id t x b quiet (fork why is) = subst (SentEffect before) (sym is) (step_sent before s k begun send None _ b (fork_sends before s.calls (occasion s e) t.parts r k.calls))
response_goes_by before s k e r begun send id t x b quiet (ack_alone is) = subst (SentEffect before) (sym is) (step_sent before s k begun send None _ b (late_sends before s.calls (occasion s e) t.parts r k.calls))
response_goes_by before s k e r begun send id t x b quiet (refused place status c there opens class at_status is) =
    subst (SentEffect before) (sym is) (takes_goes before s k e begun send None place (inputs.Refusal status) None b)

-- ---- a 2xx that comes again: its line sends nothing

class_success : (r : Response) → is_success r.status ≡ true → class_of r.status ≡ Success
class_success r h =
    let both = and_parts (nat_le 200 r.status) (nat_le r.status 299) h in
    let late : nat_lt r.status 200 ≡ false = le-ltb r.status 200 (leb-true 200 r.status both.0) in
    let early : nat_lt r.status 300 ≡ true = lt-ltb r.status 300 (omega (arith, leb-true r.status 299 both.1)) in
    rw (late, early) refl

abbrev IsQuiet : Option Step → Type 0
IsQuiet None = Unit {0}
IsQuiet (Some step) = step.send ≡ Nothing

invite_quiet : (state : InviteClient) → IsQuiet (invite_client_row state (machine_inputs.Response Success))
unfolding invite_client_row
invite_quiet (clients.Calling interval abandoned) = refl
invite_quiet clients.Proceeding = refl
invite_quiet clients.Completed = tt
invite_quiet clients.Accepted = refl

server_quiet : (state : InviteServer) → IsQuiet (invite_server_row state (machine_inputs.Response Success))
unfolding invite_server_row
server_quiet servers.Proceeding = tt
server_quiet (servers.Completed interval) = tt
server_quiet servers.Confirmed = tt
server_quiet servers.Accepted = tt

other_quiet : (state : OtherClient) → IsQuiet (other_client_row state (machine_inputs.Response Success))
unfolding other_client_row
other_quiet (others.Trying interval) = refl
other_quiet others.Proceeding = refl
other_quiet others.Completed = tt

served_quiet : (state : OtherServer) → IsQuiet (other_server_row state (machine_inputs.Response Success))
unfolding other_server_row
served_quiet served_states.Trying = tt
served_quiet served_states.Proceeding = tt
served_quiet served_states.Completed = tt

success_quiet : (state : State) → IsQuiet (row_of state (machine_inputs.Response Success))
unfolding row_of
success_quiet (machine.InviteClient state) = invite_quiet state
success_quiet (machine.InviteServer state) = server_quiet state
success_quiet (machine.OtherClient state) = other_quiet state
success_quiet (machine.OtherServer state) = served_quiet state

no_ack_by : (t : Transaction) (r : Response) (line : Option Step) → IsQuiet line → ack_by t r line ≡ None
no_ack_by t r None h = refl
no_ack_by t r (Some step) h = rw h refl

no_ack : (t : Transaction) (r : Response) → is_success r.status ≡ true → ack_at (Some t) r ≡ None
no_ack t r h =
    no_ack_by t r (row_of t.state (response_input r)) (subst (λ c. IsQuiet (row_of t.state (machine_inputs.Response c))) (sym (class_success r h)) (success_quiet t.state))

nothing_entered : (fresh : Option (List ℕ)) → fresh ≡ None → WasSentIf [] fresh
nothing_entered fresh e = subst (WasSentIf []) (sym e) tt

-- what begins with a 2xx that is acknowledged
quiet_begun : (s : Office) (e : Setting) (r : Response) (id : ℕ) (t : Transaction) → IsResponseTo s r id t → is_acknowledged t.parts r ≡ true → GoAlone (begun_by s e (Kinds.Response r))
unfolding change_of
quiet_begun s e r id t to acked =
    let told : response_change s.table r (Some id) ≡ response_change s.table r (position (is_answered r.parts) s.table.slots) = ap (response_change s.table r) (sym to.position) in
    let none : ack_at (at s.table.slots id) r ≡ None = ap (λ o. ack_at o r) to.there ∙ no_ack t r (and_parts _ _ acked).1 in
    (subst (EntryWasSent []) told (nothing_entered (ack_at (at s.table.slots id) r) none), tt)

-- ---- a message

request_alone : (s : Office) (e : Setting) (r : Request) → GoAlone (begun_by s e (Kinds.Request r))
unfolding change_of
request_alone s e r = (request_change_sent [] r e.source (position (is_asked r.parts) s.table.slots), tt)

request_begun : (s : Office) (e : Setting) (r : Request) (m : Message) → m ≡ Kinds.Request r → GoAlone (begun_by s e m)
request_begun s e r m is = subst (λ x. GoAlone (begun_by s e x)) (sym is) (request_alone s e r)

message_goes : (before : List Sent) (s : Office) → KnowsSent s before → (e : Setting) (m : Message) (x : Effect) → ReceivedRow s e m x → SentEffect before x
message_goes before s k e m x (dropped taken is) = subst (SentEffect before) (sym is) (plan_sent before s k (nothing taken) tt)
message_goes before s k e m x (moved is) = subst (SentEffect before) (sym is) (plan_sent before s k (moves (begun_by s e m) (reception_of s.table m).send) (message_sent s.table m e.source))
message_goes before s k e m x (requested r id is new row) = request_goes_by before s k e r (begun_by s e m) id x (request_begun s e r m is) row
message_goes before s k e m x (acknowledged r place is found row_is) =
    subst (SentEffect before) (sym row_is) (takes_goes before s k e (begun_by s e m) None None place inputs.Ack None (request_begun s e r m is))
message_goes before s k e m x (responded r id t is up to row) =
    response_goes_by before s k e r (begun_by s e m) (reception_of s.table m).send id t x (message_sent s.table m e.source)
    (λ place acked. subst (λ y. GoAlone (begun_by s e y)) (sym is) (quiet_begun s e r id t to acked)) row

datagram_goes : (before : List Sent) (s : Office) → KnowsSent s before → (e : Setting) (bytes : List ℕ) (x : Effect) → DatagramRow s e bytes x → SentEffect before x
datagram_goes before s k e bytes x (ignored taken is) = subst (SentEffect before) (sym is) (plan_sent before s k (nothing taken) tt)
datagram_goes before s k e bytes x (unreadable fault parts unread can is) = subst (SentEffect before) (sym is) (plan_sent before s k _ tt)
datagram_goes before s k e bytes x (unfit_branched r read is) = subst (SentEffect before) (sym is) (plan_sent before s k _ tt)
datagram_goes before s k e bytes x (was_received m read branch reached row) = message_goes before s k e m x row

-- ---- what is due

stopped_sent : (before : List Sent) (s : Office) → KnowsSent s before → (timer : CallTimerId) → KnowsSent (without_call_timer timer s) before
stopped_sent before s k timer = record { slots = k.slots; acks = k.acks; calls = k.calls }

due_goes : (before : List Sent) (s : Office) → KnowsSent s before → (e : Setting) (x : Effect) → DueRow s e x → SentEffect before x
due_goes before s k e x (idle is) = subst (SentEffect before) (sym is) (plan_sent before s k _ tt)
due_goes before s k e x (listed users is) = subst (SentEffect before) (sym is) (plan_sent before s k _ tt)
due_goes before s k e x (sent_again timer out fired is) = subst (SentEffect before) (sym is) (plan_sent before s k (moves (fire_of timer ∷ []) (Some out)) (tt, tt))
due_goes before s k e x (fired_alone timer fired is) = subst (SentEffect before) (sym is) (plan_sent before s k (moves (fire_of timer ∷ []) None) (tt, tt))
due_goes before s k e x (timed timer t place fired times there found is) = subst (SentEffect before) (sym is) (takes_goes before s k e (fire_of timer ∷ []) None None place inputs.TimedOut None (tt, tt))
due_goes before s k e x (ended timer fired is) =
    subst (SentEffect before) (sym is) (
    record {
      entries = (tt, tt);
      acks = without_sent (before ++ []) timer.id s.acks (acks_within before (before ++ []) s.acks (sent_left before []) k.acks);
      calls = calls_within before (before ++ []) s.calls.calls (sent_left before []) k.calls;
    }
    )
due_goes before s k e x (stopped timer is) =
    let own = plan_sent before (without_call_timer timer s) (stopped_sent before s k timer) (moves [] None) tt in
    subst (SentEffect before) (sym is) own
due_goes before s k e x (call_fired timer place found is) =
    subst (SentEffect before) (sym is) (takes_goes before (without_call_timer timer s) (stopped_sent before s k timer) e [] None None place (timer_input timer.timer) None tt)

what_goes : (before : List Sent) (s : Office) → KnowsSent s before → (now salt : ℕ) (what : What) (x : Effect) → WhatRow s now salt what x → SentEffect before x
what_goes before s k now salt what x (came source bytes is row) = datagram_goes before s k (setting now salt source) bytes x row
what_goes before s k now salt what x (due is row) = due_goes before s k (setting now salt no_source) x row

-- ---- an event

event_goes : (before : List Sent) (s : Contents) → KnowsSent (office s) before → (e : Event) (taken : Option Taken) → SentEffect before (row_by s e taken)
event_goes before s k e (Some taken) = plan_sent before (office s) k (nothing taken) tt
event_goes before s k e None = what_goes before (office s) k (moment_at s e.now) e.salt e.what (what_row (office s) (moment_at s e.now) e.salt e.what) (what_view (office s) (moment_at s e.now) e.salt e.what)

row_goes : (before : List Sent) (s : Contents) → KnowsSent (office s) before → (e : Event) → SentEffect before (row s e)
unfolding row
row_goes before s k e = event_goes before s k e (only_counts s e)

known_by : (before : List Sent) (s : Contents) → KnowsSent (office s) before → (now : ℕ) (x : Effect) → SentEffect before x → KnowsSent (office (after_event s now x)) (before ++ x.plan.sends)
unfolding after_event
known_by before s k now x own =
    let all = before ++ x.plan.sends in
    record {
      slots = all_entered_last all now s.table x.plan.changes (entries_within x.plan.sends all x.plan.changes (sent_right before x.plan.sends) own.entries)
          (slots_within before all s.table.slots (sent_left before x.plan.sends) k.slots);
      acks = own.acks;
      calls = own.calls;
    }

pub after_sent : (s : Contents) (e : Event) (before : List Sent) → KnowsSent (office s) before → KnowsSent (office (after s e)) (before ++ (row s e).plan.sends)
after_sent s e before k = known_by before s k (moment_after s e) (row s e) (row_goes before s k e)

pub new_sent : (c : Config) (s : Contents) → IsNew c s → KnowsSent (office s) []
new_sent c s new = record {
  slots = subst (All (LastWasSent [])) (sym new.slots) (All-nil (LastWasSent []));
  acks = subst (All (AckWasSent [])) (sym new.acks) (All-nil (AckWasSent []));
  calls = subst (All (CallWasSent [])) (sym new.calls) (All-nil (CallWasSent []));
}
