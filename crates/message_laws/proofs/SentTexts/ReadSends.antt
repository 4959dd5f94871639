-- What the transactions send reads back: what they sent last, and the ACK to a refusal.
use Rattle.std.proofs.Common.{◌≡◌, ◌∙◌, ℕ, ◌==◌, Bool, true, false, cond, List, [], ◌∷◌, codes, find, length, position, Option, Some, None, option_map, Result, Ok, Err, refl, sym, subst, inl, inr}
use Rattle.std.specs.List.{All, list_all}
use Rattle.std.specs.Prelude.{unwrap_or}
use Rattle.std.proofs.lemmas.Bool.{cases_lt}
use Rattle.std.proofs.lemmas.List.{get_or_past}
use Rattle.std.proofs.lemmas.List.Elements.{All-head, All-nil, All-tail, All-weaker}
use Rattle.std.proofs.lemmas.List.Quantifiers.{position-Some}
use Rattle.std.proofs.lemmas.Option.{none-some, same_Some}
use Rattle.text.specs.Class.{is_token_byte}
use Rattle.events.specs.declared.sent.Sent.{Sent}
use Rattle.sip_uri.specs.NameAddr.{name_addr_of}
use Rattle.sip_uri.specs.declared.error.UriError.{UriError}
use Rattle.sip_uri.specs.declared.uri.NameAddr.{NameAddr}
use Rattle.sip_message.specs.Party.{has_fit_tag, party_from, party_of}
use Rattle.sip_message.specs.Read.{message_of}
use Rattle.sip_message.specs.Words.{is_method, tag_text, tag_value}
use Rattle.sip_message.specs.declared.message.Message.{Message}
use Rattle.sip_message.specs.declared.message.Message.TheVariants as Kinds
use Rattle.sip_message.specs.declared.message.Request.{Request}
use Rattle.sip_message.specs.declared.message.Response.{Response}
use Rattle.sip_writing.specs.Requests.{IsEnd}
use Rattle.sip_writing.specs.Writing.{message_text}
use Rattle.transaction_machines.specs.declared.input.Input.{Input}
use Rattle.transaction_machines.specs.declared.input.Input.TheVariants as machine_inputs
use Rattle.transaction_machines.specs.declared.step.Sending.{Sending}
use Rattle.transaction_machines.specs.declared.step.Sending.TheVariants as sendings
use Rattle.transaction_machines.specs.declared.step.Step.{Step}
use Rattle.transaction_machines.specs.declared.step.Told.{Told}
use Rattle.transaction_machines.specs.declared.step.Told.TheVariants as tellings
use Rattle.transaction_machines.specs.Machines.{row_of}
use Rattle.transactions.specs.declared.outcome.Fired.TheVariants as fires
use Rattle.transactions.specs.declared.outcome.Outgoing.{Outgoing}
use Rattle.transactions.specs.declared.outcome.Verdict.TheVariants as verdicts
use Rattle.transactions.specs.declared.transaction.TimerId.{TimerId}
use Rattle.transactions.specs.declared.transaction.Transaction.{Transaction}
use Rattle.transactions.specs.Contents.{ack_at, ack_by, ack_for, fired_by, fired_of, fired_step, input_of, reception_at, reception_by, reception_of, request_reception, response_input, response_reception}
use Rattle.transactions.specs.Contents as transactions
use Rattle.transactions.specs.SameBranch.{ack_of, ack_to}
use Rattle.transactions.specs.Slots.{at, free_number, is_answered, is_asked}
use Rattle.transactions.specs.Transactions.{outgoing, sent}
use Rattle.calls.specs.declared.standing_call.StandingCall.{StandingCall}
use Rattle.plans.specs.CallRows.{again}
use Rattle.plans.specs.Office.{Office}
use Rattle.plans.specs.Plan.{goes}
use Rattle.plans.specs.declared.acks.KeptAck.{KeptAck}
use Rattle.message_laws.specs.Sending.{AckWasSent, AnswerWasSent, CallWasSent, KnowsSent, LastWasSent, WasSent, WasSentIf}
use Rattle.message_laws.proofs.TokenUse.Grounds.{read_repeats}
use Rattle.message_laws.proofs.Messages.ReadParts.{IsTokenIf, party_tag}
use Rattle.message_laws.proofs.StandingCalls.Reading.{Reading}
use Rattle.message_laws.proofs.TokenUse.Rows.{answered_client}
use Rattle.message_laws.proofs.StandingCalls.Texts.{all_of_run}
use Rattle.message_laws.proofs.TokenUse.WrittenRequests.{refusal_ack_stands}
use Rattle.message_laws.specs.Comings.{KnowsScenes}
use Rattle.message_laws.specs.ReadDatagrams.{IsReadDatagram, IsReadText}
use Rattle.message_laws.specs.SoundScenes.{IsSoundRequest}
use Rattle.message_laws.proofs.StandingCalls.ClientSlots.{client_at}
use Rattle.message_laws.proofs.SentTexts.ReadReplies.{one_read}

-- ---- what would be sent again reads back

abbrev pub ReadsIf : Option (List ℕ) → Type 0
ReadsIf None = Unit {0}
ReadsIf (Some bytes) = IsReadText bytes

abbrev pub LastReads : Option Transaction → Type 0
LastReads None = Unit {0}
LastReads (Some t) = ReadsIf t.last

abbrev pub AckReads : KeptAck → Type 0
AckReads ack = IsReadDatagram ack.sent

abbrev pub AgainReads : Option Sent → Type 0
AgainReads None = Unit {0}
AgainReads (Some answer) = IsReadDatagram answer

abbrev pub AnswerReads : StandingCall → Type 0
AnswerReads c = AgainReads c.answer

-- what is known before an event
pub record IsReady (s : Office) : Type 0 where
  pub scenes : KnowsScenes s
  pub last : All LastReads s.table.slots
  pub acks : All AckReads s.acks
  pub again : All AnswerReads s.calls.calls

was_read : (before : List Sent) (bytes : List ℕ) → All IsReadDatagram before → WasSent before bytes → IsReadText bytes
was_read [] bytes all h = absurd h
was_read (d ∷ before) bytes all (inl same) = subst IsReadText same (All-head IsReadDatagram d before all)
was_read (d ∷ before) bytes all (inr h) = was_read before bytes (All-tail IsReadDatagram d before all) h

was_read_if : (before : List Sent) (bytes : Option (List ℕ)) → All IsReadDatagram before → WasSentIf before bytes → ReadsIf bytes
was_read_if before None all h = tt
was_read_if before (Some bytes) all h = was_read before bytes all h

last_was_read : (before : List Sent) → All IsReadDatagram before → (t : Option Transaction) → LastWasSent before t → LastReads t
last_was_read before all None h = tt
last_was_read before all (Some t) h = was_read_if before t.last all h

answer_was_read : (before : List Sent) → All IsReadDatagram before → (answer : Option Sent) → AnswerWasSent before answer → AgainReads answer
answer_was_read before all None h = tt
answer_was_read before all (Some answer) h = was_read before answer.bytes all h

pub is_ready : (s : Office) (before : List Sent) → KnowsScenes s → KnowsSent s before → All IsReadDatagram before → IsReady s
is_ready s before k was all = record {
  scenes = k;
  last = All-weaker (LastWasSent before) LastReads (last_was_read before all) s.table.slots was.slots;
  acks = All-weaker (AckWasSent before) AckReads (λ a h. was_read before a.sent.bytes all h) s.acks was.acks;
  again = All-weaker (CallWasSent before) AnswerReads (λ c h. answer_was_read before all c.answer h) s.calls.calls was.calls;
}

-- ---- the ACK to a refusal

name_by : (n name : NameAddr) (b : Bool) → cond b (Some n) None ≡ Some name → n ≡ name
name_by n name true e = same_Some n name e
name_by n name false e = absurd (none-some name e)

name_from : (r : Result NameAddr UriError) (name : NameAddr) → party_from r ≡ Some name → r ≡ Ok name
name_from (Err fault) name e = absurd (none-some name e)
name_from (Ok n) name e = λ i. Ok (name_by n name (has_fit_tag n.params) e i)

name_of : (text : List ℕ) (name : NameAddr) → party_of text ≡ Some name → name_addr_of text ≡ Ok name
unfolding party_of
name_of text name e = name_from (name_addr_of text) name e

tag_tokens : (tag : Option (List ℕ)) → IsTokenIf tag → list_all is_token_byte (unwrap_or tag []) ≡ true
tag_tokens None h = refl
tag_tokens (Some tag) h = all_of_run is_token_byte tag h

-- the To of a response that was read, with its tag alone
answered_end : Reading → (text : List ℕ) (r : Response) → message_of text ≡ Ok (Kinds.Response r) → IsEnd (ack_to r.parts.to)
answered_end reading text r read =
    let repeats = read_repeats text (Kinds.Response r) read in
    record {
      read = record { text = r.parts.to_text; params = r.parts.to.params; reads = reading.name r.parts.to_text r.parts.to (name_of r.parts.to_text r.parts.to repeats.to); clean = repeats.to_value.clean };
      tag = tag_text r.parts.to.params;
      token = tag_tokens (tag_value r.parts.to.params) (party_tag r.parts.to_text r.parts.to repeats.to);
      tagged = refl;
    }

ack_if_reads : (o : Option Request) → ((r : Request) → o ≡ Some r → IsReadText (message_text (Kinds.Request r))) → ReadsIf (option_map (λ (ack : Request). message_text (Kinds.Request ack)) o)
ack_if_reads None h = tt
ack_if_reads (Some r) h = h r refl

ack_for_reads : Reading → (text : List ℕ) (t : Transaction) (r : Response) (send : Sending) → message_of text ≡ Ok (Kinds.Response r) → IsSoundRequest t.uri t.parts → ReadsIf (ack_for t r send)
ack_for_reads reading text t r sendings.Nothing read sound = tt
ack_for_reads reading text t r sendings.Again read sound = tt
ack_for_reads reading text t r sendings.Fresh read sound =
    ack_if_reads (ack_of t.uri t.parts r.parts) (λ ack is. (Kinds.Request ack, refl, refusal_ack_stands t.uri t.parts r.parts ack sound.values sound.via (answered_end reading text r read) is))

ack_by_reads : Reading → (text : List ℕ) (t : Transaction) (r : Response) (step : Option Step) → message_of text ≡ Ok (Kinds.Response r) → IsSoundRequest t.uri t.parts → ReadsIf (ack_by t r step)
ack_by_reads reading text t r None read sound = tt
ack_by_reads reading text t r (Some step) read sound = ack_for_reads reading text t r step.send read sound

-- ---- what a transaction sends

abbrev pub GoesRead : Option Outgoing → Type 0
GoesRead send = All IsReadDatagram (goes send)

last_at : (slots : List (Option Transaction)) (id : ℕ) (t : Transaction) → All LastReads slots → at slots id ≡ Some t → ReadsIf t.last
last_at slots id t each there = elim (cases_lt id (length slots)) [
  | inl lt ↦ subst LastReads there (each id None lt)
  | inr le ↦ absurd (none-some t (sym (get_or_past slots id None le) ∙ there))
]

again_goes : (t : Transaction) (last : Option (List ℕ)) → ReadsIf last → GoesRead (option_map (outgoing t.place) last)
again_goes t None h = All-nil IsReadDatagram
again_goes t (Some bytes) h = one_read (record { to = t.place; bytes = bytes }) h

sent_goes : (t : Transaction) (fresh : Option (List ℕ)) (send : Sending) → ReadsIf t.last → ReadsIf fresh → GoesRead (sent t fresh send)
sent_goes t fresh sendings.Nothing h k = All-nil IsReadDatagram
sent_goes t fresh sendings.Again h k = again_goes t t.last h
sent_goes t fresh sendings.Fresh h k = again_goes t fresh k

reception_goes_by : (id : ℕ) (t : Transaction) (input : Input) (fresh : Option (List ℕ)) (step : Option Step) → ReadsIf t.last → ReadsIf fresh → GoesRead (reception_by id t input fresh step).send
reception_goes_by id t input fresh None h k = All-nil IsReadDatagram
reception_goes_by id t input fresh (Some step) h k = sent_goes t fresh step.send h k

reception_goes_at : (s : Office) → IsReady s → (id : ℕ) (t : Option Transaction) (input : Input) (fresh : Option (List ℕ)) → at s.table.slots id ≡ t → ReadsIf fresh → GoesRead (reception_at id t input fresh).send
reception_goes_at s k id None input fresh there own = All-nil IsReadDatagram
reception_goes_at s k id (Some t) input fresh there own = reception_goes_by id t input fresh (row_of t.state input) (last_at s.table.slots id t k.last there) own

begun_goes : (table : transactions.Contents) (b : Bool) → GoesRead (cond b transactions.stray (record { verdict = verdicts.New (free_number table.slots); before = None; send = None })).send
begun_goes table true = All-nil IsReadDatagram
begun_goes table false = All-nil IsReadDatagram

request_goes : (s : Office) → IsReady s → (r : Request) (id : Option ℕ) → GoesRead (request_reception s.table r id).send
request_goes s k r None = begun_goes s.table (is_method (codes "ACK") r.parts)
request_goes s k r (Some id) = reception_goes_at s k id (at s.table.slots id) (input_of r.parts) None refl tt

-- the ACK to a response of a client transaction
ack_at_reads : Reading → (s : Office) → IsReady s → (text : List ℕ) (r : Response) (id : ℕ) (t : Option Transaction) → message_of text ≡ Ok (Kinds.Response r) → at s.table.slots id ≡ t → is_answered r.parts t ≡ true → ReadsIf (ack_at t r)
ack_at_reads reading s k text r id None read there answers = tt
ack_at_reads reading s k text r id (Some t) read there answers =
    ack_by_reads reading text t r (row_of t.state (response_input r)) read (client_at s.table.slots id t k.scenes.clients.slots there (answered_client r.parts t answers))

response_goes : Reading → (s : Office) → IsReady s → (text : List ℕ) (r : Response) (id : Option ℕ) → message_of text ≡ Ok (Kinds.Response r) → position (is_answered r.parts) s.table.slots ≡ id
    → GoesRead (response_reception s.table r id).send
response_goes reading s k text r None read there = All-nil IsReadDatagram
response_goes reading s k text r (Some id) read there =
    reception_goes_at s k id (at s.table.slots id) (response_input r) (ack_at (at s.table.slots id) r) refl
    (ack_at_reads reading s k text r id (at s.table.slots id) read refl (position-Some (is_answered r.parts) s.table.slots id None there).1)

pub message_goes : Reading → (s : Office) → IsReady s → (text : List ℕ) (m : Message) → message_of text ≡ Ok m → GoesRead (reception_of s.table m).send
unfolding reception_of
message_goes reading s k text (Kinds.Request r) read = request_goes s k r (position (is_asked r.parts) s.table.slots)
message_goes reading s k text (Kinds.Response r) read = response_goes reading s k text r (position (is_answered r.parts) s.table.slots) read refl

-- ---- a timer of a transaction

by_goes : (told : Told) (send : Option Outgoing) (out : Outgoing) → GoesRead send → fired_by told send ≡ Some (fires.Send out) → GoesRead (Some out)
by_goes tellings.TimedOut send out own e = absurd cc
by_goes tellings.Ended send out own e = absurd cc
by_goes tellings.Silent None out own e = absurd cc
by_goes tellings.Silent (Some o) out own e = let same : o ≡ out = cc in subst (λ (x : Outgoing). GoesRead (Some x)) same own
by_goes tellings.Up None out own e = absurd cc
by_goes tellings.Up (Some o) out own e = let same : o ≡ out = cc in subst (λ (x : Outgoing). GoesRead (Some x)) same own

step_goes : (t : Transaction) (step : Option Step) (out : Outgoing) → ReadsIf t.last → fired_step t step ≡ Some (fires.Send out) → GoesRead (Some out)
step_goes t None out own e = absurd cc
step_goes t (Some step) out own e = by_goes step.told (sent t None step.send) out (sent_goes t None step.send own tt) e

timer_goes : (s : Office) → IsReady s → (timer : TimerId) (t : Option Transaction) (out : Outgoing) → at s.table.slots timer.id ≡ t → fired_of t timer.kind ≡ Some (fires.Send out) → GoesRead (Some out)
timer_goes s k timer None out there e = absurd cc
timer_goes s k timer (Some t) out there e = step_goes t (row_of t.state (machine_inputs.Fires timer.kind)) out (last_at s.table.slots timer.id t k.last there) e

pub fired_goes : (s : Office) → IsReady s → (timer : TimerId) (out : Outgoing) → fired_of (at s.table.slots timer.id) timer.kind ≡ Some (fires.Send out) → GoesRead (Some out)
fired_goes s k timer out e = timer_goes s k timer (at s.table.slots timer.id) out refl e

-- ---- the ACK that is sent again

pub kept_goes : (id : ℕ) (acks : List KeptAck) → All AckReads acks → All IsReadDatagram (again (find (λ (a : KeptAck). a.id == id) acks))
kept_goes id [] all = All-nil IsReadDatagram
kept_goes id (ack ∷ acks) all = found_goes ack acks id (ack.id == id) (All-head AckReads ack acks all) (kept_goes id acks (All-tail AckReads ack acks all))
  where
    found_goes : (ack : KeptAck) (acks : List KeptAck) (id : ℕ) (b : Bool) → AckReads ack → All IsReadDatagram (again (find (λ (a : KeptAck). a.id == id) acks))
        → All IsReadDatagram (again (cond b (Some ack) (find (λ (a : KeptAck). a.id == id) acks)))
    found_goes ack acks id true own rest = one_read ack.sent own
    found_goes ack acks id false own rest = rest
