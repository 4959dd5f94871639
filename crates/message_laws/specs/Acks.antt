-- The ACKs that are sent again where their 2xx comes again, and how long they are kept (RFC 3261 section 13.2.2.4).
use Rattle.std.specs.Prelude.{◌≡◌, ℕ, Bool, true, false, List, [], ◌∷◌, Option, Some, ◌⊎◌}
use Rattle.std.specs.List.{All}
use Rattle.transaction_machines.specs.declared.invite_client.InviteClient.TheVariants as invites
use Rattle.transaction_machines.specs.declared.other_client.OtherClient.TheVariants as others
use Rattle.transaction_machines.specs.declared.state.State.{State}
use Rattle.transaction_machines.specs.declared.state.State.TheVariants.{InviteClient, InviteServer, OtherClient, OtherServer}
use Rattle.transactions.specs.declared.transaction.Transaction.{Transaction}
use Rattle.transactions.specs.Slots.{at}
use Rattle.plans.specs.declared.acks.KeptAck.{KeptAck}
use Rattle.plans.specs.Office.{Office}

-- a client transaction that had its 2xx (RFC 6026 section 7.2), or the final response to an UPDATE
abbrev pub had_final : State → Bool
had_final (InviteClient (invites.Calling interval abandoned)) = false
had_final (InviteClient invites.Proceeding) = false
had_final (InviteClient invites.Completed) = false
had_final (InviteClient invites.Accepted) = true
had_final (OtherClient (others.Trying interval)) = false
had_final (OtherClient others.Proceeding) = false
had_final (OtherClient others.Completed) = true
had_final (InviteServer state) = false
had_final (OtherServer state) = false

pub record IsAnswered (slots : List (Option Transaction)) (id : ℕ) : Type 0 where
  pub transaction : Transaction
  pub stands : at slots id ≡ Some transaction
  pub final : had_final transaction.state ≡ true

-- the transaction of its request is live, and may be answered again
abbrev pub IsKept : List (Option Transaction) → KeptAck → Type 0
IsKept slots ack = IsAnswered slots ack.id

abbrev pub KnowsAcks : Office → Type 0
KnowsAcks s = All (IsKept s.table.slots) s.acks

-- an ACK is kept for this transaction
abbrev pub HasAck : List KeptAck → ℕ → Type 0
HasAck [] id = ⊥
HasAck (ack ∷ acks) id = (ack.id ≡ id) ⊎ HasAck acks id
