-- A 2xx to a request of the server's own has its transaction send nothing (RFC 3261 section 17.1, RFC 6026 section
-- 7.2).
use Rattle.std.proofs.Common.{◌≡◌, ℕ, true, false, List, Option, Some, None, position, refl, ap, sym, subst}
use Rattle.std.proofs.lemmas.Bool.{false≢true}
use Rattle.std.proofs.lemmas.List.Quantifiers.{position-Some}
use Rattle.sip_message.specs.Words.{class_of}
use Rattle.sip_message.specs.declared.message.Message.TheVariants as Kinds
use Rattle.sip_message.specs.declared.message.Response.{Response}
use Rattle.sip_message.specs.declared.words.Class.TheVariants.{Success}
use Rattle.transaction_machines.specs.declared.input.Input.{Input}
use Rattle.transaction_machines.specs.declared.input.Input.TheVariants as inputs
use Rattle.transaction_machines.specs.declared.invite_client.InviteClient.{InviteClient}
use Rattle.transaction_machines.specs.declared.invite_client.InviteClient.TheVariants as invites
use Rattle.transaction_machines.specs.declared.other_client.OtherClient.{OtherClient}
use Rattle.transaction_machines.specs.declared.other_client.OtherClient.TheVariants as others
use Rattle.transaction_machines.specs.declared.state.State.{State}
use Rattle.transaction_machines.specs.declared.state.State.TheVariants as machine
use Rattle.transaction_machines.specs.declared.step.Sending.TheVariants.{Nothing}
use Rattle.transaction_machines.specs.declared.step.Step.{Step}
use Rattle.transaction_machines.specs.InviteClient.{invite_client_row}
use Rattle.transaction_machines.specs.Machines.{is_server, row_of}
use Rattle.transaction_machines.specs.OtherClient.{other_client_row}
use Rattle.transactions.specs.Contents.{Contents, ack_at, reception_at, reception_by, reception_of, response_input, response_reception}
use Rattle.transactions.specs.Slots.{at, is_answered}
use Rattle.transactions.specs.Transactions.{sent}
use Rattle.transactions.specs.declared.transaction.Transaction.{Transaction}
use Rattle.message_laws.proofs.TokenUse.Rows.{answered_client}

-- ---- the lines of the machines

abbrev IsSilent : Option Step → Type 0
IsSilent None = Unit {0}
IsSilent (Some step) = step.send ≡ Nothing

invite_silent : (state : InviteClient) → IsSilent (invite_client_row state (inputs.Response Success))
unfolding invite_client_row
invite_silent (invites.Calling interval abandoned) = refl
invite_silent invites.Proceeding = refl
invite_silent invites.Completed = tt
invite_silent invites.Accepted = refl

other_silent : (state : OtherClient) → IsSilent (other_client_row state (inputs.Response Success))
unfolding other_client_row
other_silent (others.Trying interval) = refl
other_silent others.Proceeding = refl
other_silent others.Completed = tt

machine_silent : (state : State) → is_server state ≡ false → IsSilent (row_of state (inputs.Response Success))
unfolding row_of
machine_silent (machine.InviteClient state) client = invite_silent state
machine_silent (machine.InviteServer state) client = absurd (false≢true (sym client))
machine_silent (machine.OtherClient state) client = other_silent state
machine_silent (machine.OtherServer state) client = absurd (false≢true (sym client))

-- ---- the transaction

step_silent : (id : ℕ) (x : Transaction) (input : Input) (fresh : Option (List ℕ)) (step : Option Step) → IsSilent step → (reception_by id x input fresh step).send ≡ None
step_silent id x input fresh None h = refl
step_silent id x input fresh (Some step) h = ap (sent x fresh) h

at_silent : (r : Response) (id : ℕ) (o : Option Transaction) → class_of r.status ≡ Success → is_answered r.parts o ≡ true → (reception_at id o (response_input r) (ack_at o r)).send ≡ None
at_silent r id None class answers = refl
at_silent r id (Some x) class answers =
    step_silent id x (response_input r) (ack_at (Some x) r) (row_of x.state (response_input r))
    (subst (λ kind. IsSilent (row_of x.state (inputs.Response kind))) (sym class) (machine_silent x.state (answered_client r.parts x answers)))

in_silent : (table : Contents) (r : Response) (id : Option ℕ) → position (is_answered r.parts) table.slots ≡ id → class_of r.status ≡ Success → (response_reception table r id).send ≡ None
in_silent table r None found class = refl
in_silent table r (Some id) found class = at_silent r id (at table.slots id) class (position-Some (is_answered r.parts) table.slots id None found).1

pub success_silent : (table : Contents) (r : Response) → class_of r.status ≡ Success → (reception_of table (Kinds.Response r)).send ≡ None
unfolding reception_of
success_silent table r class = in_silent table r (position (is_answered r.parts) table.slots) refl class
