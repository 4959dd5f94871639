-- A message, as a list of cases: each row of the agent for it, with why it is that one.
use Rattle.std.proofs.Common.{◌≡◌, ℕ, true, false, List, [], ◌∷◌, Option, Some, None, position, refl}
use Rattle.std.proofs.lemmas.List.Quantifiers.{position-Some}
use Rattle.sip_message.specs.declared.message.Message.{Message}
use Rattle.sip_message.specs.declared.message.Message.TheVariants as Kinds
use Rattle.sip_message.specs.declared.message.Parts.{Parts}
use Rattle.sip_message.specs.declared.message.Request.{Request}
use Rattle.sip_message.specs.declared.message.Response.{Response}
use Rattle.transaction_machines.specs.declared.input.Input.{Input}
use Rattle.transaction_machines.specs.declared.input.Input.TheVariants as machine_inputs
use Rattle.transaction_machines.specs.declared.step.Sending.{Sending}
use Rattle.transaction_machines.specs.declared.step.Sending.TheVariants.{Nothing, Again, Fresh}
use Rattle.transaction_machines.specs.declared.step.Step.{Step}
use Rattle.transaction_machines.specs.declared.step.Told.{Told}
use Rattle.transaction_machines.specs.declared.step.Told.TheVariants.{Silent, Up, TimedOut, Ended}
use Rattle.transaction_machines.specs.Machines.{row_of}
use Rattle.transactions.specs.declared.change.Entry.{Entry}
use Rattle.transactions.specs.declared.outcome.Outgoing.{Outgoing}
use Rattle.transactions.specs.declared.outcome.Verdict.{Verdict}
use Rattle.transactions.specs.declared.outcome.Verdict.TheVariants as verdicts
use Rattle.transactions.specs.declared.transaction.Transaction.{Transaction}
use Rattle.transactions.specs.Changes.{change_of}
use Rattle.transactions.specs.Contents.{ack_at, reception_at, reception_by, reception_of, repeat_by, response_input, response_reception, upward}
use Rattle.transactions.specs.Slots.{at, is_answered}
use Rattle.call_core.specs.declared.input.Input.TheVariants as inputs
use Rattle.calls.specs.Finding.{place_by_ack}
use Rattle.plans.specs.Office.{Office}
use Rattle.plans.specs.declared.setting.Setting.{Setting}
use Rattle.plans.specs.declared.taken.Taken.{Taken}
use Rattle.plans.specs.declared.taken.Taken.TheVariants.{Dropped, Shed}
use Rattle.plans.specs.declared.taken.Why.TheVariants.{Stray, Ack as AckDropped}
use Rattle.plans.specs.CallRows.{ack_by, ack_row, of_plan, response_by_asked, response_row, takes}
use Rattle.plans.specs.Effect.{Effect}
use Rattle.plans.specs.Plan.{moves, nothing}
use Rattle.event_rows.specs.Rows.{is_full, received, received_by, request_by, response_by}
use Rattle.message_laws.proofs.Messages.RequestViews.{RequestRow, by_if, request_view}
use Rattle.message_laws.proofs.Messages.ResponseViews.{ResponseRow, response_rule_view}

-- ---- a message, of which the transactions say this

-- a response is one to the request of a client transaction
pub record IsResponseTo (s : Office) (r : Response) (id : ℕ) (t : Transaction) : Type 0 where
  pub there : at s.table.slots id ≡ Some t
  pub position : position (is_answered r.parts) s.table.slots ≡ Some id
  pub answers : is_answered r.parts (Some t) ≡ true

pub data MessageRow (s : Office) (e : Setting) (m : Message) (begun : List Entry) (send : Option Outgoing) (x : Effect) : Type 0 where
  dropped : (taken : Taken) → x ≡ of_plan s (nothing taken) → MessageRow s e m begun send x
  moved : x ≡ of_plan s (moves begun send) → MessageRow s e m begun send x
  requested : (r : Request) (id : ℕ) → m ≡ Kinds.Request r → (reception_of s.table m).verdict ≡ verdicts.New id → RequestRow s e r begun id x → MessageRow s e m begun send x
  acknowledged : (r : Request) (place : ℕ) → m ≡ Kinds.Request r → place_by_ack r.parts s.calls.calls ≡ Some place → x ≡ takes s e begun None None place inputs.Ack None → MessageRow s e m begun send x
  responded : (r : Response) (id : ℕ) (t : Transaction) → m ≡ Kinds.Response r → (reception_of s.table m).verdict ≡ verdicts.Up id → IsResponseTo s r id t → ResponseRow s e r begun send id t x
      → MessageRow s e m begun send x

ack_by_view : (s : Office) (e : Setting) (r : Request) (begun : List Entry) (send : Option Outgoing) (place : Option ℕ) → place_by_ack r.parts s.calls.calls ≡ place
    → MessageRow s e (Kinds.Request r) begun send (ack_by s e begun place)
ack_by_view s e r begun send None there = dropped (Dropped AckDropped) refl
ack_by_view s e r begun send (Some place) there = acknowledged r place refl there refl

ack_view : (s : Office) (e : Setting) (r : Request) (begun : List Entry) (send : Option Outgoing) → MessageRow s e (Kinds.Request r) begun send (ack_row s e r begun)
unfolding ack_row
ack_view s e r begun send = ack_by_view s e r begun send (place_by_ack r.parts s.calls.calls) refl

request_by_view : (s : Office) (e : Setting) (r : Request) (begun : List Entry) (verdict : Verdict) (send : Option Outgoing) → (reception_of s.table (Kinds.Request r)).verdict ≡ verdict
    → MessageRow s e (Kinds.Request r) begun send (request_by s e r begun verdict send)
unfolding request_by
request_by_view s e r begun (verdicts.New id) send is = requested r id refl is (request_view s e r begun id)
request_by_view s e r begun verdicts.Repeat send is = moved refl
request_by_view s e r begun verdicts.Swallowed send is = moved refl
request_by_view s e r begun (verdicts.Up id) send is = ack_view s e r begun send
request_by_view s e r begun verdicts.Stray send is = ack_view s e r begun send

-- a verdict on a response goes up only for the transaction that it is one to
abbrev FitsVerdict : Office → Response → Verdict → Type 0
FitsVerdict s r (verdicts.New id) = Unit {0}
FitsVerdict s r verdicts.Repeat = Unit {0}
FitsVerdict s r verdicts.Swallowed = Unit {0}
FitsVerdict s r (verdicts.Up id) = position (is_answered r.parts) s.table.slots ≡ Some id
FitsVerdict s r verdicts.Stray = Unit {0}

repeat_fits : (s : Office) (r : Response) (input : Input) (send : Sending) → FitsVerdict s r (repeat_by input send)
repeat_fits s r machine_inputs.Repeat Nothing = tt
repeat_fits s r machine_inputs.Repeat Again = tt
repeat_fits s r machine_inputs.Repeat Fresh = tt
repeat_fits s r machine_inputs.Ack send = tt
repeat_fits s r (machine_inputs.Answer class) send = tt
repeat_fits s r (machine_inputs.Response class) send = tt
repeat_fits s r machine_inputs.Abandon send = tt
repeat_fits s r (machine_inputs.Fires kind) send = tt

upward_fits : (s : Office) (r : Response) (id : ℕ) (told : Told) (verdict : Verdict) → position (is_answered r.parts) s.table.slots ≡ Some id → FitsVerdict s r verdict
    → FitsVerdict s r (upward id told verdict)
upward_fits s r id Up verdict h f = h
upward_fits s r id Silent verdict h f = f
upward_fits s r id TimedOut verdict h f = f
upward_fits s r id Ended verdict h f = f

step_fits : (s : Office) (r : Response) (id : ℕ) (t : Transaction) (input : Input) (fresh : Option (List ℕ)) (step : Option Step) → position (is_answered r.parts) s.table.slots ≡ Some id
    → FitsVerdict s r (reception_by id t input fresh step).verdict
step_fits s r id t input fresh None h = tt
step_fits s r id t input fresh (Some step) h = upward_fits s r id step.told (repeat_by input step.send) h (repeat_fits s r input step.send)

reception_fits : (s : Office) (r : Response) (id : ℕ) (t : Option Transaction) (input : Input) (fresh : Option (List ℕ)) → position (is_answered r.parts) s.table.slots ≡ Some id
    → FitsVerdict s r (reception_at id t input fresh).verdict
reception_fits s r id None input fresh h = tt
reception_fits s r id (Some t) input fresh h = step_fits s r id t input fresh (row_of t.state input) h

verdict_fits : (s : Office) (r : Response) (id : Option ℕ) → position (is_answered r.parts) s.table.slots ≡ id → FitsVerdict s r (response_reception s.table r id).verdict
verdict_fits s r None there = tt
verdict_fits s r (Some id) there = reception_fits s r id (at s.table.slots id) (response_input r) (ack_at (at s.table.slots id) r) there

received_fits : (s : Office) (r : Response) → FitsVerdict s r (reception_of s.table (Kinds.Response r)).verdict
unfolding reception_of
received_fits s r = verdict_fits s r (position (is_answered r.parts) s.table.slots) refl

none_answers : (parts : Parts) → is_answered parts None ≡ false
unfolding is_answered
none_answers parts = refl

asked_view : (s : Office) (e : Setting) (r : Response) (begun : List Entry) (send : Option Outgoing) (id : ℕ) (asked : Option Transaction) → at s.table.slots id ≡ asked
    → position (is_answered r.parts) s.table.slots ≡ Some id → is_answered r.parts asked ≡ true → (reception_of s.table (Kinds.Response r)).verdict ≡ verdicts.Up id
    → MessageRow s e (Kinds.Response r) begun send (response_by_asked s e r begun send id asked)
asked_view s e r begun send id None there found h up = moved refl
asked_view s e r begun send id (Some t) there found h up =
    responded r id t refl up (record { there = there; position = found; answers = h }) (response_rule_view s e r begun send id t)

response_view : (s : Office) (e : Setting) (r : Response) (begun : List Entry) (send : Option Outgoing) (id : ℕ) → position (is_answered r.parts) s.table.slots ≡ Some id
    → (reception_of s.table (Kinds.Response r)).verdict ≡ verdicts.Up id → MessageRow s e (Kinds.Response r) begun send (response_row s e r begun send id)
unfolding response_row
response_view s e r begun send id found up =
    asked_view s e r begun send id (at s.table.slots id) refl found (position-Some (is_answered r.parts) s.table.slots id None found).1 up

response_by_view : (s : Office) (e : Setting) (r : Response) (begun : List Entry) (verdict : Verdict) (send : Option Outgoing) → (reception_of s.table (Kinds.Response r)).verdict ≡ verdict
    → FitsVerdict s r verdict → MessageRow s e (Kinds.Response r) begun send (response_by s e r begun verdict send)
unfolding response_by
response_by_view s e r begun (verdicts.New id) send is fits = dropped (Dropped Stray) refl
response_by_view s e r begun verdicts.Repeat send is fits = moved refl
response_by_view s e r begun verdicts.Swallowed send is fits = moved refl
response_by_view s e r begun (verdicts.Up id) send is fits = response_view s e r begun send id fits is
response_by_view s e r begun verdicts.Stray send is fits = dropped (Dropped Stray) refl

received_by_view : (s : Office) (e : Setting) (m : Message) (begun : List Entry) (send : Option Outgoing)
    → MessageRow s e m begun send (received_by s e m begun (reception_of s.table m).verdict send)
received_by_view s e (Kinds.Request r) begun send = request_by_view s e r begun (reception_of s.table (Kinds.Request r)).verdict send refl
received_by_view s e (Kinds.Response r) begun send = response_by_view s e r begun (reception_of s.table (Kinds.Response r)).verdict send refl (received_fits s r)

-- what the transactions do with it first
abbrev pub begun_by : Office → Setting → Message → List Entry
begun_by s e m = change_of s.table m e.source ∷ []

abbrev pub ReceivedRow : Office → Setting → Message → Effect → Type 0
ReceivedRow s e m x = MessageRow s e m (begun_by s e m) (reception_of s.table m).send x

pub received_view : (s : Office) (e : Setting) (m : Message) → ReceivedRow s e m (received s e m)
unfolding received
received_view s e m =
    by_if (ReceivedRow s e m) (is_full s e (reception_of s.table m)) (of_plan s (nothing Shed))
    (received_by s e m (begun_by s e m) (reception_of s.table m).verdict (reception_of s.table m).send) (λ b. dropped Shed refl)
    (λ b. received_by_view s e m (begun_by s e m) (reception_of s.table m).send)
