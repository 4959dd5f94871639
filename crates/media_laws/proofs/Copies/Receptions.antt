-- What the transactions send where a message comes, or a timer is due: what a transaction sent last, or the ACK to a
-- refusal.
use Rattle.std.proofs.Common.{◌≡◌, ◌∙◌, ℕ, Bool, true, false, cond, List, codes, length, Option, Some, None, option_map, position, refl, ap, sym, subst, inl, inr}
use Rattle.std.specs.Prelude.{◌⊎◌}
use Rattle.std.specs.List.{All}
use Rattle.std.proofs.lemmas.Bool.{and_parts, cases_lt, false≢true}
use Rattle.std.proofs.lemmas.List.{get_or_past}
use Rattle.std.proofs.lemmas.List.Quantifiers.{position-Some}
use Rattle.std.proofs.lemmas.Option.{none-some, same_Some}
use Rattle.events.specs.declared.sent.Sent.{Sent}
use Rattle.sip_message.specs.declared.message.Message.TheVariants as Kinds
use Rattle.sip_message.specs.declared.message.Parts.{Parts}
use Rattle.sip_message.specs.declared.message.Request.{Request}
use Rattle.sip_message.specs.declared.message.Response.{Response}
use Rattle.sip_message.specs.declared.words.Class.{Class}
use Rattle.sip_message.specs.declared.words.Class.TheVariants.{Failure, Provisional, Success}
use Rattle.sip_message.specs.Words.{class_of, is_method}
use Rattle.sip_writing.specs.Writing.{message_text}
use Rattle.transaction_machines.specs.declared.input.Input.{Input}
use Rattle.transaction_machines.specs.declared.input.Input.TheVariants as inputs
use Rattle.transaction_machines.specs.declared.other_client.OtherClient.TheVariants as others
use Rattle.transaction_machines.specs.declared.state.State.{State}
use Rattle.transaction_machines.specs.declared.state.State.TheVariants as machine
use Rattle.transaction_machines.specs.declared.step.Sending.{Sending}
use Rattle.transaction_machines.specs.declared.step.Sending.TheVariants.{Again, Fresh, Nothing}
use Rattle.transaction_machines.specs.declared.step.Step.{Step}
use Rattle.transaction_machines.specs.declared.step.Told.{Told}
use Rattle.transaction_machines.specs.declared.step.Told.TheVariants as tellings
use Rattle.transaction_machines.specs.Machines.{is_server, row_of}
use Rattle.transaction_machines.specs.OtherClient.{other_client_row}
use Rattle.transactions.specs.Contents.{Contents, ack_at, ack_by, ack_for, fired_by, fired_of, fired_step, input_of, reception_at, reception_by, reception_of, request_reception, response_input, response_reception, stray}
use Rattle.transactions.specs.SameBranch.{ack_of}
use Rattle.transactions.specs.Slots.{at, free_number, is_answered, is_asked}
use Rattle.transactions.specs.Transactions.{outgoing, sent}
use Rattle.transactions.specs.declared.outcome.Fired.TheVariants as fires
use Rattle.transactions.specs.declared.outcome.Outgoing.{Outgoing}
use Rattle.transactions.specs.declared.outcome.Verdict.TheVariants as verdicts
use Rattle.transactions.specs.declared.transaction.TimerId.{TimerId}
use Rattle.transactions.specs.declared.transaction.Transaction.{Transaction}
use Rattle.message_laws.specs.Sending.{LastWasSent, WasSentIf}
use Rattle.message_laws.proofs.TokenUse.Rows.{answered_client}

-- ---- what is sent again

-- what a live transaction sent last
pub record LastGoes (slots : List (Option Transaction)) (out : Outgoing) : Type 0 where
  pub id : ℕ
  pub transaction : Transaction
  pub stands : at slots id ≡ Some transaction
  pub kept : transaction.last ≡ Some out.bytes

kept_is : (place : _) (last : Option (List ℕ)) (out : Outgoing) → option_map (outgoing place) last ≡ Some out → last ≡ Some out.bytes
kept_is place None out e = absurd (none-some out e)
kept_is place (Some bytes) out e = ap Some (ap (λ (o : Outgoing). o.bytes) (same_Some (outgoing place bytes) out e))

pub last_sent : (all : List Sent) (slots : List (Option Transaction)) (id : ℕ) (x : Transaction) → All (LastWasSent all) slots → at slots id ≡ Some x → WasSentIf all x.last
last_sent all slots id x each there = elim (cases_lt id (length slots)) [
  | inl lt ↦ subst (LastWasSent all) there (each id None lt)
  | inr le ↦ absurd (none-some x (sym (get_or_past slots id None le) ∙ there))
]

-- ---- a timer

fired_by_told : (told : Told) (send : Option Outgoing) (out : Outgoing) → fired_by told send ≡ Some (fires.Send out) → send ≡ Some out
fired_by_told tellings.TimedOut send out e = absurd cc
fired_by_told tellings.Ended send out e = absurd cc
fired_by_told tellings.Silent None out e = absurd cc
fired_by_told tellings.Silent (Some o) out e = cc
fired_by_told tellings.Up None out e = absurd cc
fired_by_told tellings.Up (Some o) out e = cc

-- without fresh bytes
sent_last : (x : Transaction) (send : Sending) (out : Outgoing) → sent x None send ≡ Some out → x.last ≡ Some out.bytes
sent_last x Nothing out e = absurd (none-some out e)
sent_last x Again out e = kept_is x.place x.last out e
sent_last x Fresh out e = absurd (none-some out e)

fired_last : (x : Transaction) (step : Option Step) (out : Outgoing) → fired_step x step ≡ Some (fires.Send out) → x.last ≡ Some out.bytes
fired_last x None out e = absurd cc
fired_last x (Some step) out e = sent_last x step.send out (fired_by_told step.told (sent x None step.send) out e)

fired_at : (slots : List (Option Transaction)) (timer : TimerId) (o : Option Transaction) (out : Outgoing) → at slots timer.id ≡ o → fired_of o timer.kind ≡ Some (fires.Send out) → LastGoes slots out
fired_at slots timer None out there e = absurd cc
fired_at slots timer (Some x) out there e = record { id = timer.id; transaction = x; stands = there; kept = fired_last x (row_of x.state (inputs.Fires timer.kind)) out e }

pub fired_goes : (slots : List (Option Transaction)) (timer : TimerId) (out : Outgoing) → fired_of (at slots timer.id) timer.kind ≡ Some (fires.Send out) → LastGoes slots out
fired_goes slots timer out e = fired_at slots timer (at slots timer.id) out refl e

-- ---- a request

pub record ServedGoes (slots : List (Option Transaction)) (out : Outgoing) : Type 0 where
  pub goes : LastGoes slots out
  pub server : is_server goes.transaction.state ≡ true

asked_server : (parts : Parts) (x : Transaction) → is_asked parts (Some x) ≡ true → is_server x.state ≡ true
unfolding is_asked
asked_server parts x h = (and_parts (is_server x.state) _ h).0

request_by : (x : Transaction) (id : ℕ) (input : Input) (step : Option Step) (out : Outgoing) → (reception_by id x input None step).send ≡ Some out → x.last ≡ Some out.bytes
request_by x id input None out e = absurd (none-some out e)
request_by x id input (Some step) out e = sent_last x step.send out e

request_at : (slots : List (Option Transaction)) (parts : Parts) (id : ℕ) (o : Option Transaction) (input : Input) (out : Outgoing) → at slots id ≡ o → is_asked parts o ≡ true
    → (reception_at id o input None).send ≡ Some out → ServedGoes slots out
request_at slots parts id None input out there asked e = absurd (none-some out e)
request_at slots parts id (Some x) input out there asked e = record {
  goes = record { id = id; transaction = x; stands = there; kept = request_by x id input (row_of x.state input) out e };
  server = asked_server parts x asked;
}

begun_none : (slots : List (Option Transaction)) (b : Bool) (out : Outgoing) → (cond b stray (record { verdict = verdicts.New (free_number slots); before = None; send = None })).send ≡ Some out → ⊥
begun_none slots true out e = none-some out e
begun_none slots false out e = none-some out e

request_in : (table : Contents) (q : Request) (id : Option ℕ) (out : Outgoing) → position (is_asked q.parts) table.slots ≡ id → (request_reception table q id).send ≡ Some out → ServedGoes table.slots out
request_in table q None out found e = absurd (begun_none table.slots (is_method (codes "ACK") q.parts) out e)
request_in table q (Some id) out found e =
    request_at table.slots q.parts id (at table.slots id) (input_of q.parts) out refl (position-Some (is_asked q.parts) table.slots id None found).1 e

pub request_goes : (table : Contents) (q : Request) (out : Outgoing) → (reception_of table (Kinds.Request q)).send ≡ Some out → ServedGoes table.slots out
unfolding reception_of
request_goes table q out e = request_in table q (position (is_asked q.parts) table.slots) out refl e

-- ---- a response

abbrev pub IsInviteClient : State → Type 0
IsInviteClient (machine.InviteClient state) = Unit {0}
IsInviteClient (machine.InviteServer state) = ⊥
IsInviteClient (machine.OtherClient state) = ⊥
IsInviteClient (machine.OtherServer state) = ⊥

-- the ACK to a refusal of an INVITE of the server's own
pub record AckGoes (slots : List (Option Transaction)) (r : Response) (out : Outgoing) : Type 0 where
  pub id : ℕ
  pub transaction : Transaction
  pub ack : Request
  pub stands : at slots id ≡ Some transaction
  pub client : is_server transaction.state ≡ false
  pub invite : IsInviteClient transaction.state
  pub is : ack_of transaction.uri transaction.parts r.parts ≡ Some ack
  pub said : out.bytes ≡ message_text (Kinds.Request ack)

-- only the machine of INVITEs sends what is fresh
abbrev FreshIf : State → Option Step → Type 0
FreshIf state None = Unit {0}
FreshIf state (Some step) = step.send ≡ Fresh → IsInviteClient state

fresh_other : (state : _) (class : Class) → FreshIf (machine.OtherClient state) (other_client_row state (inputs.Response class))
unfolding other_client_row
fresh_other (others.Trying interval) Provisional = λ e. absurd cc
fresh_other (others.Trying interval) Success = λ e. absurd cc
fresh_other (others.Trying interval) Failure = λ e. absurd cc
fresh_other others.Proceeding Provisional = λ e. absurd cc
fresh_other others.Proceeding Success = λ e. absurd cc
fresh_other others.Proceeding Failure = λ e. absurd cc
fresh_other others.Completed Provisional = tt
fresh_other others.Completed Success = tt
fresh_other others.Completed Failure = tt

fresh_invite : (state : _) (step : Option Step) → FreshIf (machine.InviteClient state) step
fresh_invite state None = tt
fresh_invite state (Some step) = λ e. tt

fresh_machine : (state : State) (class : Class) → is_server state ≡ false → FreshIf state (row_of state (inputs.Response class))
unfolding row_of
fresh_machine (machine.InviteClient state) class client = fresh_invite state _
fresh_machine (machine.InviteServer state) class client = absurd (false≢true (sym client))
fresh_machine (machine.OtherClient state) class client = fresh_other state class
fresh_machine (machine.OtherServer state) class client = absurd (false≢true (sym client))

ack_is : (place : _) (o : Option Request) (out : Outgoing) → option_map (outgoing place) (option_map (λ (ack : Request). message_text (Kinds.Request ack)) o) ≡ Some out
    → (ack : Request) × (o ≡ Some ack) × (out.bytes ≡ message_text (Kinds.Request ack))
ack_is place None out e = absurd (none-some out e)
ack_is place (Some ack) out e = (ack, refl, sym (ap (λ (o : Outgoing). o.bytes) (same_Some (outgoing place (message_text (Kinds.Request ack))) out e)))

module _ (slots : List (Option Transaction)) (r : Response) (id : ℕ) (x : Transaction) (there : at slots id ≡ Some x) (client : is_server x.state ≡ false) (out : Outgoing) where
  response_send : (send : Sending) → (send ≡ Fresh → IsInviteClient x.state) → sent x (ack_for x r send) send ≡ Some out → LastGoes slots out ⊎ AckGoes slots r out
  response_send Nothing invite e = absurd (none-some out e)
  response_send Again invite e = inl (record { id = id; transaction = x; stands = there; kept = kept_is x.place x.last out e })
  response_send Fresh invite e =
      let a = ack_is x.place (ack_of x.uri x.parts r.parts) out e in
      inr (record { id = id; transaction = x; ack = a.0; stands = there; client = client; invite = invite refl; is = a.1; said = a.2 })

  response_step : (step : Option Step) → FreshIf x.state step → (reception_by id x (response_input r) (ack_by x r step) step).send ≡ Some out → LastGoes slots out ⊎ AckGoes slots r out
  response_step None fresh e = absurd (none-some out e)
  response_step (Some step) fresh e = response_send step.send fresh e

response_at : (slots : List (Option Transaction)) (r : Response) (id : ℕ) (o : Option Transaction) (out : Outgoing) → at slots id ≡ o → is_answered r.parts o ≡ true
    → (reception_at id o (response_input r) (ack_at o r)).send ≡ Some out → LastGoes slots out ⊎ AckGoes slots r out
response_at slots r id None out there answers e = absurd (none-some out e)
response_at slots r id (Some x) out there answers e =
    let client = answered_client r.parts x answers in
    response_step slots r id x there client out (row_of x.state (response_input r)) (fresh_machine x.state (class_of r.status) client) e

response_in : (table : Contents) (r : Response) (id : Option ℕ) (out : Outgoing) → position (is_answered r.parts) table.slots ≡ id → (response_reception table r id).send ≡ Some out
    → LastGoes table.slots out ⊎ AckGoes table.slots r out
response_in table r None out found e = absurd (none-some out e)
response_in table r (Some id) out found e =
    response_at table.slots r id (at table.slots id) out refl (position-Some (is_answered r.parts) table.slots id None found).1 e

pub response_goes : (table : Contents) (r : Response) (out : Outgoing) → (reception_of table (Kinds.Response r)).send ≡ Some out → LastGoes table.slots out ⊎ AckGoes table.slots r out
unfolding reception_of
response_goes table r out e = response_in table r (position (is_answered r.parts) table.slots) out refl e
