-- Each row of a request that begins a transaction, of an ACK, of a response and of a timer counts the event as done,
-- and its changes are ready; and but for a REGISTER's none changes the registrar.
use Rattle.std.proofs.Common.{◌≡◌, ◌++◌, ℕ, List, [], ◌∷◌, Option, Some, None, Result, Ok, Err, map, refl}
use Rattle.std.specs.Prelude.{option_map}
use Rattle.std.proofs.lemmas.Bool.{cond_both}
use Rattle.std.proofs.lemmas.List.Elements.{All-append}
use Rattle.sip_uri.specs.declared.uri.Uri.{Uri}
use Rattle.sip_message.specs.declared.headers.Header.{Header}
use Rattle.sip_message.specs.declared.message.Request.{Request}
use Rattle.sip_message.specs.declared.message.Response.{Response}
use Rattle.sdp.specs.declared.description.Description.{Description}
use Rattle.registrar.specs.Registrar.{PlanContents, answer_of as registrar_answer, plan_of, rules_of}
use Rattle.registrar.specs.declared.binding.Binding.{Binding}
use Rattle.registrar.specs.declared.refusal.Refusal.{Refusal}
use Rattle.transactions.specs.declared.change.Entry.{Entry}
use Rattle.transactions.specs.declared.outcome.Outgoing.{Outgoing}
use Rattle.transactions.specs.declared.transaction.TimerId.{TimerId}
use Rattle.transactions.specs.declared.transaction.Transaction.{Transaction}
use Rattle.transactions.specs.Changes.{IsReady, answer_of, fire_of}
use Rattle.transactions.specs.Slots.{at}
use Rattle.call_steps.specs.Effects as steps
use Rattle.call_steps.specs.Rows.{answers_leg, first_row, fork_row, late_row, offers_row, takes_row}
use Rattle.call_media.specs.declared.end.End.{End}
use Rattle.call_core.specs.declared.input.Input.{Input}
use Rattle.call_core.specs.declared.input.Input.TheVariants as inputs
use Rattle.calls.specs.Finding.{place_by_number}
use Rattle.calls.specs.declared.change.LegDialog.{LegDialog}
use Rattle.call_messages.specs.Messages.{contact}
use Rattle.plans.specs.declared.acks.KeptAck.{KeptAck}
use Rattle.calls.specs.declared.timer_id.CallTimerId.{CallTimerId}
use Rattle.call_rules.specs.Content.{described}
use Rattle.call_rules.specs.Responses.{response_rule, timeout_rule}
use Rattle.call_rules.specs.declared.responses.ResponseRule.{ResponseRule}
use Rattle.call_rules.specs.declared.responses.ResponseRule.TheVariants as rule
use Rattle.plans.specs.CallRows.{asker, call_timer_at, call_timer_row, occasion, of_plan, offer_method, okay_plan, passes, response_by_asked, response_row, responds_by, takes, takes_request, timed_out, timed_out_at, timeout_row, timer_input, times_responses, with_step, without_call_timer}
use Rattle.plans.specs.Effect.{Effect}
use Rattle.plans.specs.Office.{Office}
use Rattle.plans.specs.Plan.{Plan, moves}
use Rattle.plans.specs.Reasons.{status}
use Rattle.plans.specs.Replies.{fresh_tag, headers_of, refuses_for, registers, registers_by, reply_row, responds_in, response_tag_in}
use Rattle.plans.specs.declared.reason.Reason.{Reason}
use Rattle.plans.specs.declared.reason.Reason.TheVariants as reasons
use Rattle.plans.specs.declared.rule.Reply.{Reply}
use Rattle.plans.specs.declared.rule.Reply.TheVariants as replies
use Rattle.plans.specs.declared.setting.Setting.{Setting}
use Rattle.plans.specs.declared.taken.Taken.TheVariants.{Done}
use Rattle.responses.specs.Registering.{register_of}
use Rattle.responses.specs.Responding.{allow, contact_header, responds}
use Rattle.step_laws.proofs.ReadySteps.{AllReady, IsReadyStep, first_ready, fork_ready, late_ready, none_ready, offers_ready, one_ready, takes_ready}

-- the event counts, the registrar stays, and what changes in the transactions is ready
pub record IsDone (p : Plan) : Type 0 where
  pub taken : p.taken ≡ Done
  pub registration : p.registration ≡ None
  pub changes : AllReady p.changes

abbrev pub IsDoneBy : Effect → Type 0
IsDoneBy x = IsDone x.plan

pub moves_done : (begun : List Entry) (send : Option Outgoing) → AllReady begun → IsDone (moves begun send)
moves_done begun send ready = record { taken = refl; registration = refl; changes = ready }

step_done : (acks : List KeptAck) (begun : List Entry) (send : Option Outgoing) (id : Option ℕ) (step : steps.Effect) → AllReady begun → IsReadyStep step → IsDoneBy (with_step acks begun send id step)
step_done acks begun send id step ready steps = record { taken = refl; registration = refl; changes = All-append IsReady begun step.dressed.changes ready steps }

answers_ready : (begun : List Entry) (id : ℕ) (response : Response) → AllReady begun → AllReady (begun ++ answer_of id response ∷ [])
answers_ready begun id response ready = All-append IsReady begun (answer_of id response ∷ []) ready (one_ready (answer_of id response) tt)

-- ---- what no call has to do with

abbrev pub IsNoRegistration : Reply → Type 0
IsNoRegistration (replies.CancelOf other) = Unit {0}
IsNoRegistration (replies.Refusal reason) = Unit {0}
IsNoRegistration replies.MethodsListed = Unit {0}
IsNoRegistration replies.Registration = ⊥

registers_by_taken : (s : Office) (e : Setting) (r : Request) (begun : List Entry) (id : ℕ) (user : Option (List ℕ)) (answer : Result (List Binding) Refusal) → (registers_by s e r begun id user answer).taken ≡ Done
registers_by_taken s e r begun id user (Ok bindings) = refl
registers_by_taken s e r begun id user (Err refusal) = refl

pub registers_taken : (s : Office) (e : Setting) (r : Request) (begun : List Entry) (id : ℕ) → (registers s e r begun id).taken ≡ Done
unfolding registers
registers_taken s e r begun id =
    registers_by_taken s e r begun id (register_of (rules_of s.registrar) r).user (registrar_answer s.registrar (register_of (rules_of s.registrar) r) e.now)

-- ---- a request, which the transactions began with these entries

module _ (s : Office) (e : Setting) (r : Request) (begun : List Entry) (id : ℕ) (ready : AllReady begun) where
  responds_ready : (status : ℕ) (further : List Header) (registration : Option PlanContents) → AllReady (responds_in s e r begun id status further registration).changes
  responds_ready status further registration = answers_ready begun id (responds r.parts e.source status (fresh_tag s e) further) ready

  responds_done : (status : ℕ) (further : List Header) → IsDone (responds_in s e r begun id status further None)
  responds_done status further = record { taken = refl; registration = refl; changes = responds_ready status further None }

  pub refuses_done : (reason : Reason) → IsDone (refuses_for s e r begun id reason)
  refuses_done reason = record { taken = refl; registration = refl; changes = responds_ready (status reason) (headers_of s r reason) None }

  -- the 200 to an UPDATE without an offer
  pub okay_done : IsDone (okay_plan s e r begun id)
  okay_done = responds_done 200 (contact s.server ∷ [])

  pub reply_done : (reply : Reply) → IsNoRegistration reply → IsDone (reply_row s e r begun id reply)
  unfolding reply_row
  reply_done (replies.CancelOf other) fits = record { taken = refl; registration = refl; changes = answers_ready begun id (responds r.parts e.source 200 (response_tag_in s other) []) ready }
  reply_done (replies.Refusal reason) fits = refuses_done reason
  reply_done replies.MethodsListed fits = responds_done 200 (allow ∷ [])
  reply_done replies.Registration fits = absurd fits

  -- ---- a REGISTER

  registers_by_ready : (user : Option (List ℕ)) (answer : Result (List Binding) Refusal) → AllReady (registers_by s e r begun id user answer).changes
  registers_by_ready user (Ok bindings) = responds_ready 200 (map (contact_header e.now) bindings) (option_map (λ u. plan_of u bindings) user)
  registers_by_ready user (Err refusal) = (refuses_done (reasons.Register refusal)).changes

  pub registers_ready : AllReady (registers s e r begun id).changes
  unfolding registers
  registers_ready = registers_by_ready (register_of (rules_of s.registrar) r).user (registrar_answer s.registrar (register_of (rules_of s.registrar) r) e.now)

  -- ---- what a call takes

  pub first_done : (to : Uri) (offer : Description) → IsDoneBy (with_step s.acks begun None None (first_row s.calls (occasion s e) r id e.source to offer))
  first_done to offer = step_done s.acks begun None None (first_row s.calls (occasion s e) r id e.source to offer) ready (first_ready s.calls (occasion s e) r id e.source to offer)

  pub passes_done : (place : ℕ) (end : End) (offer : Description) → IsDoneBy (passes s e r begun id place end offer)
  passes_done place end offer =
      let input = inputs.Offer end (offer_method r) (Some offer) in
      step_done s.acks begun None None (offers_row s.calls s.table (occasion s e) place input end r id e.source) ready (offers_ready s.calls s.table (occasion s e) place input end r id e.source)

  pub request_done : (place : ℕ) (input : Input) (leg : Option LegDialog) (tag : List ℕ) → IsDoneBy (takes_request s e r begun id place input leg tag)
  request_done place input leg tag =
      let waits = Some (asker r e id tag) in
      step_done s.acks begun None None (takes_row s.calls s.table (occasion s e) place input leg waits) ready (takes_ready s.calls s.table (occasion s e) place input leg waits)

-- ---- what no request waits for

pub takes_done : (s : Office) (e : Setting) (begun : List Entry) (send : Option Outgoing) (id : Option ℕ) (place : ℕ) (input : Input) (leg : Option LegDialog) → AllReady begun → IsDoneBy (takes s e begun send id place input leg)
takes_done s e begun send id place input leg ready =
    step_done s.acks begun send id (takes_row s.calls s.table (occasion s e) place input leg None) ready (takes_ready s.calls s.table (occasion s e) place input leg None)

-- ---- a response

module _ (s : Office) (e : Setting) (r : Response) (begun : List Entry) (send : Option Outgoing) (id : ℕ) (ready : AllReady begun) where
  responds_by_done : (t : Transaction) (rule : ResponseRule) → IsDoneBy (responds_by s e r begun send id t rule)
  responds_by_done t rule.Silent = moves_done begun send ready
  responds_by_done t (rule.Provisional place status) = takes_done s e begun send None place (inputs.Provisional status) None ready
  responds_by_done t (rule.Answer place) = takes_done s e begun send (Some id) place (inputs.Answer (described r.headers r.body)) (answers_leg s.calls.calls place t.parts r) ready
  responds_by_done t (rule.Again place) = record { taken = refl; registration = refl; changes = ready }
  responds_by_done t rule.Fork = step_done s.acks begun send None (fork_row s.calls (occasion s e) t.parts r) ready (fork_ready s.calls (occasion s e) t.parts r)
  responds_by_done t rule.AckAlone = step_done s.acks begun send None (late_row s.calls (occasion s e) t.parts r) ready (late_ready s.calls (occasion s e) t.parts r)
  responds_by_done t (rule.Refusal place status) = takes_done s e begun send None place (inputs.Refusal status) None ready

  asked_done : (t : Option Transaction) → IsDoneBy (response_by_asked s e r begun send id t)
  asked_done None = moves_done begun send ready
  asked_done (Some t) = responds_by_done t (response_rule s.calls.calls t.parts r)

  pub response_done : IsDoneBy (response_row s e r begun send id)
  unfolding response_row
  response_done = asked_done (at s.table.slots id)

-- ---- a timer

pub fire_ready : (timer : TimerId) → AllReady (fire_of timer ∷ [])
fire_ready timer = one_ready (fire_of timer) refl

timed_out_at_done : (s : Office) (e : Setting) (begun : List Entry) (place : Option ℕ) → AllReady begun → IsDoneBy (timed_out_at s e begun place)
timed_out_at_done s e begun None ready = moves_done begun None ready
timed_out_at_done s e begun (Some place) ready = takes_done s e begun None None place inputs.TimedOut None ready

timed_out_done : (s : Office) (e : Setting) (begun : List Entry) (t : Option Transaction) → AllReady begun → IsDoneBy (timed_out s e begun t)
timed_out_done s e begun None ready = moves_done begun None ready
timed_out_done s e begun (Some t) ready = timed_out_at_done s e begun (timeout_rule s.calls.calls t.parts) ready

pub timeout_done : (s : Office) (e : Setting) (timer : TimerId) → IsDoneBy (timeout_row s e timer)
unfolding timeout_row
timeout_done s e timer =
    let begun = fire_of timer ∷ [] in
    cond_both (times_responses timer.kind) (timed_out s e begun (at s.table.slots timer.id)) (of_plan s (moves begun None)) IsDoneBy
    (λ times. timed_out_done s e begun (at s.table.slots timer.id) (fire_ready timer)) (λ others. moves_done begun None (fire_ready timer))

call_timer_at_done : (s : Office) (e : Setting) (timer : CallTimerId) (place : Option ℕ) → IsDoneBy (call_timer_at (without_call_timer timer s) e timer.timer place)
call_timer_at_done s e timer None = moves_done [] None none_ready
call_timer_at_done s e timer (Some place) = takes_done (without_call_timer timer s) e [] None None place (timer_input timer.timer) None none_ready

pub call_timer_done : (s : Office) (e : Setting) (timer : CallTimerId) → IsDoneBy (call_timer_row s e timer)
unfolding call_timer_row
call_timer_done s e timer = call_timer_at_done s e timer (place_by_number timer.number s.calls.calls)
