-- What the transactions do with a message, and send: it spares what waits, and all of it is the server's own.
use Rattle.std.proofs.Common.{◌≡◌, ◌∙◌, ℕ, ◌-◌, ◌≤◌, Bool, true, false, cond, List, [], ◌∷◌, ◌++◌, codes, length, nat_lt, position, Option, Some, None, option_map, Ok, refl, ap, sym, subst, inl, inr, arith}
use Rattle.std.specs.Prelude.{slice_set}
use Rattle.std.specs.List.{All}
use Rattle.std.proofs.lemmas.Bool.{cases_lt, ltb-false, ltb-true}
use Rattle.std.proofs.lemmas.List.{get_or-append_right, get_or-set_same, get_or_past}
use Rattle.std.proofs.lemmas.List.Elements.{All-nil}
use Rattle.std.proofs.lemmas.Option.{none-some}
use Rattle.sip_uri.specs.declared.uri.Addr.{Addr}
use Rattle.sip_message.specs.declared.message.Message.{Message}
use Rattle.sip_message.specs.declared.message.Message.TheVariants as Kinds
use Rattle.sip_message.specs.declared.message.Parts.{Parts}
use Rattle.sip_message.specs.declared.message.Request.{Request}
use Rattle.sip_message.specs.declared.message.Response.{Response}
use Rattle.sip_message.specs.Read.{message_of}
use Rattle.sip_message.specs.Repeatable.{CanBeRepeated}
use Rattle.sip_message.specs.Words.{is_method}
use Rattle.sip_writing.specs.Writing.{message_text}
use Rattle.transaction_machines.specs.declared.input.Input.{Input}
use Rattle.transaction_machines.specs.declared.input.Input.TheVariants as machine_inputs
use Rattle.transaction_machines.specs.declared.invite_server.InviteServer.TheVariants as invites
use Rattle.transaction_machines.specs.declared.other_server.OtherServer.TheVariants as others
use Rattle.transaction_machines.specs.declared.state.State.TheVariants as machine
use Rattle.transaction_machines.specs.declared.step.Sending.{Sending}
use Rattle.transaction_machines.specs.declared.step.Sending.TheVariants as sendings
use Rattle.transaction_machines.specs.declared.step.Starts.TheVariants.{NoTimer}
use Rattle.transaction_machines.specs.declared.step.Step.{Step}
use Rattle.transaction_machines.specs.declared.step.Told.{Told}
use Rattle.transaction_machines.specs.declared.step.Told.TheVariants as tellings
use Rattle.transaction_machines.specs.Machines.{row_of}
use Rattle.transactions.specs.declared.change.Entry.TheVariants.{Leaves, Opens}
use Rattle.transactions.specs.declared.outcome.Fired.TheVariants as fires
use Rattle.transactions.specs.declared.outcome.Outgoing.{Outgoing}
use Rattle.transactions.specs.declared.outcome.Verdict.TheVariants as verdicts
use Rattle.transactions.specs.declared.transaction.TimerId.{TimerId}
use Rattle.transactions.specs.declared.transaction.Transaction.{Transaction}
use Rattle.transactions.specs.Changes.{change_of, entered, request_change, response_change}
use Rattle.transactions.specs.Contents.{ack_at, ack_by, ack_for, fired_by, fired_of, fired_step, input_of, reception_at, reception_by, reception_of, repeat_by, request_reception, response_input, response_reception, upward}
use Rattle.transactions.specs.Contents as transactions
use Rattle.transactions.specs.SameBranch.{ack_of}
use Rattle.transactions.specs.Slots.{at, free_number, is_answered, is_asked}
use Rattle.transactions.specs.Transactions.{outgoing, sent, served}
use Rattle.plans.specs.Office.{Office}
use Rattle.plans.specs.declared.setting.Setting.{Setting}
use Rattle.message_laws.specs.Askers.{IsUnanswered, is_unanswered}
use Rattle.message_laws.specs.Datagrams.{IsOwnDatagram}
use Rattle.message_laws.proofs.Askers.AskerEffects.{GoesOwn, IsReady, LastIsOwn, OwnIf}
use Rattle.message_laws.proofs.AwaitedOffers.Firing.{free_differs}
use Rattle.message_laws.proofs.TokenUse.Grounds.{read_repeats}
use Rattle.message_laws.proofs.Messages.MessageViews.{begun_by}
use Rattle.message_laws.proofs.Messages.Repeats.{one_own}
use Rattle.message_laws.proofs.Askers.ServedRequests.{OnlyEarly, Spares}
use Rattle.message_laws.proofs.Askers.Speaking.{EntersAsked}
use Rattle.message_laws.proofs.Askers.SpokenSteps.{IsBegun, IsBegunAs}

-- ---- what the transactions do with a message

-- the last bytes of a live transaction
last_at : (slots : List (Option Transaction)) (id : ℕ) (t : Transaction) → All LastIsOwn slots → at slots id ≡ Some t → OwnIf t.last
last_at slots id t each there = elim (cases_lt id (length slots)) [
  | inl lt ↦ subst LastIsOwn there (each id None lt)
  | inr le ↦ absurd (none-some t (sym (get_or_past slots id None le) ∙ there))
]

again_goes : (t : Transaction) (last : Option (List ℕ)) → OwnIf last → GoesOwn (option_map (outgoing t.place) last)
again_goes t None h = All-nil IsOwnDatagram
again_goes t (Some bytes) h = one_own _ h

sent_goes : (t : Transaction) (fresh : Option (List ℕ)) (send : Sending) → OwnIf t.last → OwnIf fresh → GoesOwn (sent t fresh send)
sent_goes t fresh sendings.Nothing h k = All-nil IsOwnDatagram
sent_goes t fresh sendings.Again h k = again_goes t t.last h
sent_goes t fresh sendings.Fresh h k = again_goes t fresh k

reception_goes_by : (id : ℕ) (t : Transaction) (input : Input) (fresh : Option (List ℕ)) (step : Option Step) → OwnIf t.last → OwnIf fresh → GoesOwn (reception_by id t input fresh step).send
reception_goes_by id t input fresh None h k = All-nil IsOwnDatagram
reception_goes_by id t input fresh (Some step) h k = sent_goes t fresh step.send h k

reception_goes_at : (s : Office) → IsReady s → (id : ℕ) (t : Option Transaction) (input : Input) (fresh : Option (List ℕ)) → at s.table.slots id ≡ t → OwnIf fresh → GoesOwn (reception_at id t input fresh).send
reception_goes_at s k id None input fresh there own = All-nil IsOwnDatagram
reception_goes_at s k id (Some t) input fresh there own = reception_goes_by id t input fresh (row_of t.state input) (last_at s.table.slots id t k.last there) own

-- an ACK is a request of the server's own
ack_if_own : (o : Option Request) → OwnIf (option_map (λ (ack : Request). message_text (Kinds.Request ack)) o)
ack_if_own None = tt
ack_if_own (Some r) = inr (inr (record { request = r; said = refl }))

ack_for_own : (t : Transaction) (r : Response) (send : Sending) → OwnIf (ack_for t r send)
ack_for_own t r sendings.Nothing = tt
ack_for_own t r sendings.Again = tt
ack_for_own t r sendings.Fresh = ack_if_own (ack_of t.uri t.parts r.parts)

ack_by_own : (t : Transaction) (r : Response) (step : Option Step) → OwnIf (ack_by t r step)
ack_by_own t r None = tt
ack_by_own t r (Some step) = ack_for_own t r step.send

ack_at_own : (t : Option Transaction) (r : Response) → OwnIf (ack_at t r)
ack_at_own None r = tt
ack_at_own (Some t) r = ack_by_own t r (row_of t.state (response_input r))

begun_goes : (table : transactions.Contents) (parts : Parts) (b : Bool) → GoesOwn (cond b transactions.stray (record { verdict = verdicts.New (free_number table.slots); before = None; send = None })).send
begun_goes table parts true = All-nil IsOwnDatagram
begun_goes table parts false = All-nil IsOwnDatagram

request_goes : (s : Office) → IsReady s → (r : Request) (id : Option ℕ) → GoesOwn (request_reception s.table r id).send
request_goes s k r None = begun_goes s.table r.parts (is_method (codes "ACK") r.parts)
request_goes s k r (Some id) = reception_goes_at s k id (at s.table.slots id) (input_of r.parts) None refl tt

response_goes : (s : Office) → IsReady s → (r : Response) (id : Option ℕ) → GoesOwn (response_reception s.table r id).send
response_goes s k r None = All-nil IsOwnDatagram
response_goes s k r (Some id) = reception_goes_at s k id (at s.table.slots id) (response_input r) (ack_at (at s.table.slots id) r) refl (ack_at_own (at s.table.slots id) r)

pub message_goes : (s : Office) → IsReady s → (m : Message) → GoesOwn (reception_of s.table m).send
unfolding reception_of
message_goes s k (Kinds.Request r) = request_goes s k r (position (is_asked r.parts) s.table.slots)
message_goes s k (Kinds.Response r) = response_goes s k r (position (is_answered r.parts) s.table.slots)

-- ---- the change of a message

request_spares : (id : ℕ) (r : Request) (source : Addr) (b : Bool) → Spares id (cond b Leaves (Opens (served r source) NoTimer))
request_spares id r source true = tt
request_spares id r source false = tt

input_spares : (b : Bool) → OnlyEarly (cond b machine_inputs.Ack machine_inputs.Repeat)
input_spares true = tt
input_spares false = tt

request_change_spares : (id : ℕ) (r : Request) (source : Addr) (place : Option ℕ) → Spares id (request_change r source place)
request_change_spares id r source None = request_spares id r source (is_method (codes "ACK") r.parts)
request_change_spares id r source (Some place) = input_spares (is_method (codes "ACK") r.parts)

response_change_spares : (id : ℕ) (table : transactions.Contents) (r : Response) (place : Option ℕ) → Spares id (response_change table r place)
response_change_spares id table r None = tt
response_change_spares id table r (Some place) = tt

change_spares : (id : ℕ) (table : transactions.Contents) (m : Message) (source : Addr) → Spares id (change_of table m source)
unfolding change_of
change_spares id table (Kinds.Request r) source = request_change_spares id r source (position (is_asked r.parts) table.slots)
change_spares id table (Kinds.Response r) source = response_change_spares id table r (position (is_answered r.parts) table.slots)

request_enters : (r : Request) (source : Addr) (b : Bool) → CanBeRepeated r.parts → EntersAsked (cond b Leaves (Opens (served r source) NoTimer))
request_enters r source true repeats = tt
request_enters r source false repeats = λ server. repeats

request_change_asked : (r : Request) (source : Addr) (place : Option ℕ) → CanBeRepeated r.parts → EntersAsked (request_change r source place)
request_change_asked r source None repeats = request_enters r source (is_method (codes "ACK") r.parts) repeats
request_change_asked r source (Some place) repeats = tt

response_change_asked : (table : transactions.Contents) (r : Response) (place : Option ℕ) → EntersAsked (response_change table r place)
response_change_asked table r None = tt
response_change_asked table r (Some place) = tt

change_asked : (bytes : List ℕ) (table : transactions.Contents) (m : Message) (source : Addr) → message_of bytes ≡ Ok m → EntersAsked (change_of table m source)
unfolding change_of
change_asked bytes table (Kinds.Request r) source read = request_change_asked r source (position (is_asked r.parts) table.slots) (read_repeats bytes (Kinds.Request r) read)
change_asked bytes table (Kinds.Response r) source read = response_change_asked table r (position (is_answered r.parts) table.slots)

pub message_begun : (bytes : List ℕ) (s : Office) (e : Setting) (m : Message) → message_of bytes ≡ Ok m → IsBegun (begun_by s e m)
message_begun bytes s e m read = record { spares = λ id. (change_spares id s.table m e.source, tt); asked = (change_asked bytes s.table m e.source read, tt) }

-- ---- a request that is new begins a transaction at a number that was free

free_at : (slots : List (Option Transaction)) (t : Option Transaction) → at slots (free_number slots) ≡ t → t ≡ None
free_at slots None e = refl
free_at slots (Some t) e = absurd (free_differs slots (free_number slots) t e refl)

number_free : (slots : List (Option Transaction)) → at slots (free_number slots) ≡ None
number_free slots = free_at slots (at slots (free_number slots)) refl

-- the least free number is at most one past the last
free_within : (slots : List (Option Transaction)) → free_number slots ≤ length slots
free_within [] = omega arith
free_within (None ∷ slots) = omega arith
free_within (Some t ∷ slots) = omega (arith, free_within slots)

placed_there : (slots : List (Option Transaction)) (t : Transaction) (b : Bool) → nat_lt (free_number slots) (length slots) ≡ b
    → at (cond b (slice_set slots (free_number slots) (Some t)) (slots ++ Some t ∷ [])) (free_number slots) ≡ Some t
placed_there slots t true lt = get_or-set_same slots (free_number slots) (Some t) None (ltb-true (free_number slots) (length slots) lt)
placed_there slots t false lt =
    let same : free_number slots ≡ length slots = omega (arith, free_within slots, ltb-false (free_number slots) (length slots) lt) in
    subst (λ n. at (slots ++ Some t ∷ []) n ≡ Some t) (sym same) (get_or-append_right slots (Some t ∷ []) (length slots) (length slots) None refl (omega arith) ∙ last_is (length slots))
  where
    last_is : (n : ℕ) → at (Some t ∷ []) (n - n) ≡ Some t
    last_is n = let none : n - n ≡ 0 = omega arith in rw none refl

served_unanswered : (b : Bool) → is_unanswered (cond b (machine.InviteServer invites.Proceeding) (machine.OtherServer others.Trying)) ≡ true
served_unanswered true = refl
served_unanswered false = refl

opened_there : (table : transactions.Contents) (r : Request) (source : Addr) (now : ℕ) → IsUnanswered (entered now table (Opens (served r source) NoTimer)).slots (free_number table.slots)
opened_there table r source now = record {
  transaction = served r source;
  stands = placed_there table.slots (served r source) (nat_lt (free_number table.slots) (length table.slots)) refl;
  unanswered = served_unanswered (is_method (codes "INVITE") r.parts);
}

-- of a verdict that is New
repeat_not_new : (input : Input) (send : Sending) (id : ℕ) → repeat_by input send ≡ verdicts.New id → ⊥
repeat_not_new machine_inputs.Repeat sendings.Nothing id e = cc
repeat_not_new machine_inputs.Repeat sendings.Again id e = cc
repeat_not_new machine_inputs.Repeat sendings.Fresh id e = cc
repeat_not_new machine_inputs.Ack send id e = cc
repeat_not_new (machine_inputs.Answer class) send id e = cc
repeat_not_new (machine_inputs.Response class) send id e = cc
repeat_not_new machine_inputs.Abandon send id e = cc
repeat_not_new (machine_inputs.Fires kind) send id e = cc

upward_not_new : (place : ℕ) (told : Told) (input : Input) (send : Sending) (id : ℕ) → upward place told (repeat_by input send) ≡ verdicts.New id → ⊥
upward_not_new place tellings.Up input send id e = cc
upward_not_new place tellings.Silent input send id e = repeat_not_new input send id e
upward_not_new place tellings.TimedOut input send id e = repeat_not_new input send id e
upward_not_new place tellings.Ended input send id e = repeat_not_new input send id e

by_not_new : (place : ℕ) (t : Transaction) (input : Input) (step : Option Step) (id : ℕ) → (reception_by place t input None step).verdict ≡ verdicts.New id → ⊥
by_not_new place t input None id e = cc
by_not_new place t input (Some step) id e = upward_not_new place step.told input step.send id e

at_not_new : (place : ℕ) (t : Option Transaction) (input : Input) (id : ℕ) → (reception_at place t input None).verdict ≡ verdicts.New id → ⊥
at_not_new place None input id e = cc
at_not_new place (Some t) input id e = by_not_new place t input (row_of t.state input) id e

-- a request that is new
record IsOpened (table : transactions.Contents) (r : Request) (source : Addr) (place : Option ℕ) (id : ℕ) : Type 0 where
  number : id ≡ free_number table.slots
  change : request_change r source place ≡ Opens (served r source) NoTimer

begun_new : (table : transactions.Contents) (r : Request) (source : Addr) (id : ℕ) (b : Bool) → is_method (codes "ACK") r.parts ≡ b
    → (cond b transactions.stray (record { verdict = verdicts.New (free_number table.slots); before = None; send = None })).verdict ≡ verdicts.New id → IsOpened table r source None id
begun_new table r source id true ack e = absurd cc
begun_new table r source id false ack e = record { number = cc; change = rw ack refl }

new_opens : (table : transactions.Contents) (r : Request) (source : Addr) (place : Option ℕ) (id : ℕ) → (request_reception table r place).verdict ≡ verdicts.New id → IsOpened table r source place id
new_opens table r source None id e = begun_new table r source id (is_method (codes "ACK") r.parts) refl e
new_opens table r source (Some place) id e = absurd (at_not_new place (at table.slots place) (input_of r.parts) id e)

pub new_begun : (s : Office) (e : Setting) (r : Request) (id : ℕ) → (reception_of s.table (Kinds.Request r)).verdict ≡ verdicts.New id → IsBegunAs s.table (begun_by s e (Kinds.Request r)) id
unfolding reception_of change_of
new_begun s e r id new =
    let o = new_opens s.table r e.source (position (is_asked r.parts) s.table.slots) id new in
    record {
      free = ap (at s.table.slots) o.number ∙ number_free s.table.slots;
      opened = λ now. subst (λ n. IsUnanswered (entered now s.table (request_change r e.source (position (is_asked r.parts) s.table.slots))).slots n) (sym o.number)
          (subst (λ change. IsUnanswered (entered now s.table change).slots (free_number s.table.slots)) (sym o.change) (opened_there s.table r e.source now));
    }

-- ---- a timer of a transaction

by_goes : (told : Told) (send : Option Outgoing) (out : Outgoing) → GoesOwn send → fired_by told send ≡ Some (fires.Send out) → GoesOwn (Some out)
by_goes tellings.TimedOut send out own e = absurd cc
by_goes tellings.Ended send out own e = absurd cc
by_goes tellings.Silent None out own e = absurd cc
by_goes tellings.Silent (Some o) out own e = let same : o ≡ out = cc in subst (λ (x : Outgoing). GoesOwn (Some x)) same own
by_goes tellings.Up None out own e = absurd cc
by_goes tellings.Up (Some o) out own e = let same : o ≡ out = cc in subst (λ (x : Outgoing). GoesOwn (Some x)) same own

step_goes : (t : Transaction) (step : Option Step) (out : Outgoing) → OwnIf t.last → fired_step t step ≡ Some (fires.Send out) → GoesOwn (Some out)
step_goes t None out own e = absurd cc
step_goes t (Some step) out own e = by_goes step.told (sent t None step.send) out (sent_goes t None step.send own tt) e

timer_goes : (s : Office) → IsReady s → (timer : TimerId) (t : Option Transaction) (out : Outgoing) → at s.table.slots timer.id ≡ t → fired_of t timer.kind ≡ Some (fires.Send out) → GoesOwn (Some out)
timer_goes s k timer None out there e = absurd cc
timer_goes s k timer (Some t) out there e = step_goes t (row_of t.state (machine_inputs.Fires timer.kind)) out (last_at s.table.slots timer.id t k.last there) e

pub fired_goes : (s : Office) → IsReady s → (timer : TimerId) (out : Outgoing) → fired_of (at s.table.slots timer.id) timer.kind ≡ Some (fires.Send out) → GoesOwn (Some out)
fired_goes s k timer out e = timer_goes s k timer (at s.table.slots timer.id) out refl e
