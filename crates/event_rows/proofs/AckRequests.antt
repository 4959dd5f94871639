-- A request that goes up, or that belongs to no transaction and begins none, is an ACK (RFC 3261 sections 17.1.1.3 and
-- 17.2).
use Rattle.std.proofs.Common.{◌≡◌, ◌∙◌, ℕ, Bool, true, false, codes, Option, Some, None, position, refl, sym}
use Rattle.std.proofs.lemmas.Bool.{and_parts, false≢true}
use Rattle.std.proofs.lemmas.List.Quantifiers.{position-Some}
use Rattle.sip_message.specs.declared.message.Message.TheVariants as Kinds
use Rattle.sip_message.specs.declared.message.Parts.{Parts}
use Rattle.sip_message.specs.declared.message.Request.{Request}
use Rattle.sip_message.specs.Words.{is_method}
use Rattle.transaction_machines.specs.declared.input.Input.TheVariants as machine_inputs
use Rattle.transaction_machines.specs.declared.invite_server.InviteServer.{InviteServer}
use Rattle.transaction_machines.specs.declared.invite_server.InviteServer.TheVariants.{Accepted, Completed, Confirmed, Proceeding}
use Rattle.transaction_machines.specs.declared.other_server.OtherServer.{OtherServer}
use Rattle.transaction_machines.specs.declared.other_server.OtherServer.TheVariants as others
use Rattle.transaction_machines.specs.declared.state.State.{State}
use Rattle.transaction_machines.specs.declared.state.State.TheVariants.{InviteClient, InviteServer as OfInvite, OtherClient, OtherServer as OfOther}
use Rattle.transaction_machines.specs.declared.step.Step.{Step}
use Rattle.transaction_machines.specs.InviteServer.{invite_server_row}
use Rattle.transaction_machines.specs.Machines.{is_server, row_of}
use Rattle.transaction_machines.specs.OtherServer.{other_server_row}
use Rattle.transactions.specs.declared.outcome.Verdict.{Verdict}
use Rattle.transactions.specs.declared.outcome.Verdict.TheVariants as verdicts
use Rattle.transactions.specs.declared.transaction.Transaction.{Transaction}
use Rattle.transactions.specs.Contents.{Contents, begun, input_of, reception_at, reception_by, reception_of, request_reception}
use Rattle.transactions.specs.Matching.{is_copy}
use Rattle.transactions.specs.Slots.{at, is_asked}

abbrev pub IsAckIf : Request → Verdict → Type 0
IsAckIf r (verdicts.New id) = Unit {0}
IsAckIf r verdicts.Repeat = Unit {0}
IsAckIf r verdicts.Swallowed = Unit {0}
IsAckIf r (verdicts.Up id) = is_method (codes "ACK") r.parts ≡ true
IsAckIf r verdicts.Stray = is_method (codes "ACK") r.parts ≡ true

any_ack : (r : Request) (verdict : Verdict) → is_method (codes "ACK") r.parts ≡ true → IsAckIf r verdict
any_ack r (verdicts.New id) is = tt
any_ack r verdicts.Repeat is = tt
any_ack r verdicts.Swallowed is = tt
any_ack r (verdicts.Up id) is = is
any_ack r verdicts.Stray is = is

-- a copy of a request is none that goes up
abbrev Repeats : Request → ℕ → Transaction → Option Step → Type 0
Repeats r id t line = IsAckIf r (reception_by id t machine_inputs.Repeat None line).verdict

invite_again : (r : Request) (id : ℕ) (t : Transaction) (state : InviteServer) → Repeats r id t (invite_server_row state machine_inputs.Repeat)
unfolding invite_server_row
invite_again r id t Proceeding = tt
invite_again r id t (Completed interval) = tt
invite_again r id t Confirmed = tt
invite_again r id t Accepted = tt

other_again : (r : Request) (id : ℕ) (t : Transaction) (state : OtherServer) → Repeats r id t (other_server_row state machine_inputs.Repeat)
unfolding other_server_row
other_again r id t others.Trying = tt
other_again r id t others.Proceeding = tt
other_again r id t others.Completed = tt

repeat_again : (r : Request) (id : ℕ) (t : Transaction) (state : State) → is_server state ≡ true → Repeats r id t (row_of state machine_inputs.Repeat)
unfolding row_of
repeat_again r id t (InviteClient state) server = absurd (false≢true server)
repeat_again r id t (OfInvite state) server = invite_again r id t state
repeat_again r id t (OtherClient state) server = absurd (false≢true server)
repeat_again r id t (OfOther state) server = other_again r id t state

asked_server : (parts : Parts) (t : Transaction) → is_asked parts (Some t) ≡ true → is_server t.state ≡ true
unfolding is_asked
asked_server parts t is = (and_parts (is_server t.state) (is_copy parts t.parts) is).0

none_asked : (parts : Parts) → is_asked parts None ≡ false
unfolding is_asked
none_asked parts = refl

in_transaction : (r : Request) (id : ℕ) (t : Transaction) (ack : Bool) → is_method (codes "ACK") r.parts ≡ ack → is_server t.state ≡ true → IsAckIf r (reception_at id (Some t) (input_of r.parts) None).verdict
in_transaction r id t true is server = any_ack r (reception_at id (Some t) (input_of r.parts) None).verdict is
in_transaction r id t false is server = rw is (repeat_again r id t t.state server)

at_slot : (r : Request) (id : ℕ) (o : Option Transaction) → is_asked r.parts o ≡ true → IsAckIf r (reception_at id o (input_of r.parts) None).verdict
at_slot r id None is = absurd (false≢true (sym (none_asked r.parts) ∙ is))
at_slot r id (Some t) is = in_transaction r id t (is_method (codes "ACK") r.parts) refl (asked_server r.parts t is)

outside : (table : Contents) (r : Request) (ack : Bool) → is_method (codes "ACK") r.parts ≡ ack → IsAckIf r (begun table r.parts).verdict
outside table r true is = any_ack r (begun table r.parts).verdict is
outside table r false is = rw is tt

in_place : (table : Contents) (r : Request) (id : Option ℕ) → position (is_asked r.parts) table.slots ≡ id → IsAckIf r (request_reception table r id).verdict
in_place table r None there = outside table r (is_method (codes "ACK") r.parts) refl
in_place table r (Some id) there = at_slot r id (at table.slots id) (position-Some (is_asked r.parts) table.slots id None there).1

pub up_is_ack : (table : Contents) (r : Request) → IsAckIf r (reception_of table (Kinds.Request r)).verdict
unfolding reception_of
up_is_ack table r = in_place table r (position (is_asked r.parts) table.slots) refl
