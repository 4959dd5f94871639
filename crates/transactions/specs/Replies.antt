-- Which request a response that is taken replies to.
use Rattle.std.specs.Prelude.{◌≡◌, ℕ, false, Some}
use Rattle.sip_message.specs.declared.message.Parts.{Parts}
use Rattle.transactions.specs.declared.outcome.Reception.{Reception}
use Rattle.transactions.specs.declared.outcome.Verdict.{Verdict}
use Rattle.transactions.specs.declared.outcome.Verdict.TheVariants as verdicts
use Rattle.transactions.specs.declared.transaction.Transaction.{Transaction}
use Rattle.transaction_machines.specs.Machines.{is_server}
use Rattle.transactions.specs.Matching.{RepliesTo}
use Rattle.transactions.specs.Slots.{at}
use Rattle.transactions.specs.Contents.{Contents}

-- the message belongs to a transaction
abbrev pub IsTaken : Verdict → Type 0
IsTaken (verdicts.New id) = ⊥
IsTaken verdicts.Repeat = ⊥
IsTaken verdicts.Swallowed = Unit {0}
IsTaken (verdicts.Up id) = Unit {0}
IsTaken verdicts.Stray = ⊥

-- t is the client transaction with the number id, the response replies to its request, and it was in the state before
pub record IsReplyTo (table : Contents) (response : Parts) (reception : Reception) (id : ℕ) (t : Transaction) : Type 0 where
  pub stands : at table.slots id ≡ Some t
  pub client : is_server t.state ≡ false
  pub request : RepliesTo response t.parts
  pub before : reception.before ≡ Some t.state
  pub number : (up : ℕ) → reception.verdict ≡ verdicts.Up up → up ≡ id

-- a response goes up or is swallowed only where a live client transaction has the request it replies to
abbrev pub RepliesWhereTaken : Contents → Parts → Reception → Type 0
RepliesWhereTaken table response reception = IsTaken reception.verdict → (id : ℕ) × (t : Transaction) × IsReplyTo table response reception id t
