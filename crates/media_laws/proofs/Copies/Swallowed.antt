-- A response that a transaction swallows is one to a request that no longer waits (RFC 3261 section 17.1).
use Rattle.std.proofs.Common.{◌≡◌, ℕ, true, false, List, Option, Some, None, position, refl, subst}
use Rattle.std.proofs.lemmas.Bool.{false_from_ne_true, false≢true}
use Rattle.std.proofs.lemmas.List.Quantifiers.{position-Some}
use Rattle.sip_message.specs.declared.message.Message.TheVariants as Kinds
use Rattle.sip_message.specs.declared.message.Response.{Response}
use Rattle.sip_message.specs.declared.words.Class.{Class}
use Rattle.sip_message.specs.declared.words.Class.TheVariants.{Failure, Provisional, Success}
use Rattle.sip_message.specs.Words.{class_of}
use Rattle.transaction_machines.specs.declared.input.Input.{Input}
use Rattle.transaction_machines.specs.declared.input.Input.TheVariants as inputs
use Rattle.transaction_machines.specs.declared.invite_client.InviteClient.TheVariants as invites
use Rattle.transaction_machines.specs.declared.other_client.OtherClient.TheVariants as others
use Rattle.transaction_machines.specs.declared.state.State.{State}
use Rattle.transaction_machines.specs.declared.state.State.TheVariants as machine
use Rattle.transaction_machines.specs.declared.step.Step.{Step}
use Rattle.transaction_machines.specs.declared.step.Told.TheVariants.{Up}
use Rattle.transaction_machines.specs.InviteClient.{invite_client_row}
use Rattle.transaction_machines.specs.Machines.{row_of}
use Rattle.transaction_machines.specs.OtherClient.{other_client_row}
use Rattle.transactions.specs.Contents.{Contents, ack_at, reception_at, reception_by, reception_of, repeat_by, response_input, response_reception, upward}
use Rattle.transactions.specs.Slots.{at, is_answered}
use Rattle.transactions.specs.declared.transaction.Transaction.{Transaction}
use Rattle.message_laws.specs.Waiting.{waits}
use Rattle.media_laws.specs.Verdicts.{IsTransactions}

-- it belongs to a transaction that no longer waits
pub record IsSwallowed (slots : List (Option Transaction)) (r : Response) : Type 0 where
  pub id : ℕ
  pub transaction : Transaction
  pub stands : at slots id ≡ Some transaction
  pub answers : is_answered r.parts (Some transaction) ≡ true
  pub over : waits transaction.state ≡ false

abbrev GoesUp : Option Step → Type 0
GoesUp None = ⊥
GoesUp (Some step) = step.told ≡ Up

up_invite : (state : _) (class : Class) → waits (machine.InviteClient state) ≡ true → GoesUp (invite_client_row state (inputs.Response class))
unfolding invite_client_row
up_invite (invites.Calling interval abandoned) Provisional w = refl
up_invite (invites.Calling interval abandoned) Success w = refl
up_invite (invites.Calling interval abandoned) Failure w = refl
up_invite invites.Proceeding Provisional w = refl
up_invite invites.Proceeding Success w = refl
up_invite invites.Proceeding Failure w = refl
up_invite invites.Completed class w = absurd (false≢true w)
up_invite invites.Accepted class w = absurd (false≢true w)

up_other : (state : _) (class : Class) → waits (machine.OtherClient state) ≡ true → GoesUp (other_client_row state (inputs.Response class))
unfolding other_client_row
up_other (others.Trying interval) Provisional w = refl
up_other (others.Trying interval) Success w = refl
up_other (others.Trying interval) Failure w = refl
up_other others.Proceeding Provisional w = refl
up_other others.Proceeding Success w = refl
up_other others.Proceeding Failure w = refl
up_other others.Completed class w = absurd (false≢true w)

-- what reaches one that waits goes up
goes_up : (state : State) (class : Class) → waits state ≡ true → GoesUp (row_of state (inputs.Response class))
unfolding row_of
goes_up (machine.InviteClient state) class w = up_invite state class w
goes_up (machine.InviteServer state) class w = absurd (false≢true w)
goes_up (machine.OtherClient state) class w = up_other state class w
goes_up (machine.OtherServer state) class w = absurd (false≢true w)

up_moves_none : (id : ℕ) (x : Transaction) (input : Input) (fresh : Option (List ℕ)) (step : Option Step) → GoesUp step → ¬ IsTransactions (reception_by id x input fresh step).verdict
up_moves_none id x input fresh None up h = up
up_moves_none id x input fresh (Some step) up h = subst (λ told. IsTransactions (upward id told (repeat_by input step.send))) up h

swallowed_at : (slots : List (Option Transaction)) (r : Response) (id : ℕ) (o : Option Transaction) → at slots id ≡ o → is_answered r.parts o ≡ true
    → IsTransactions (reception_at id o (response_input r) (ack_at o r)).verdict → IsSwallowed slots r
swallowed_at slots r id None there answers h = absurd h
swallowed_at slots r id (Some x) there answers h = record {
  id = id;
  transaction = x;
  stands = there;
  answers = answers;
  over = false_from_ne_true (waits x.state) (λ w. up_moves_none id x (response_input r) (ack_at (Some x) r) (row_of x.state (response_input r)) (goes_up x.state (class_of r.status) w) h);
}

swallowed_in : (table : Contents) (r : Response) (id : Option ℕ) → position (is_answered r.parts) table.slots ≡ id → IsTransactions (response_reception table r id).verdict → IsSwallowed table.slots r
swallowed_in table r None found h = absurd h
swallowed_in table r (Some id) found h = swallowed_at table.slots r id (at table.slots id) refl (position-Some (is_answered r.parts) table.slots id None found).1 h

pub swallowed_by : (table : Contents) (r : Response) → IsTransactions (reception_of table (Kinds.Response r)).verdict → IsSwallowed table.slots r
unfolding reception_of
swallowed_by table r h = swallowed_in table r (position (is_answered r.parts) table.slots) refl h
