-- The transactions at an event with a new request.
use Rattle.std.specs.Prelude.{◌≡◌, ℕ, List, [], ◌∷◌, Option, Some}
use Rattle.plans.specs.Effect.{Effect}
use Rattle.plans.specs.Office.{Office}
use Rattle.plans.specs.declared.setting.Setting.{Setting}
use Rattle.message_laws.specs.Askers.{KnowsAskers}
use Rattle.message_laws.specs.Numbers.{begun_of}
use Rattle.sip_message.specs.declared.message.Message.TheVariants as Kinds
use Rattle.sip_message.specs.declared.message.Parts.{Parts}
use Rattle.sip_message.specs.declared.message.Request.{Request}
use Rattle.transactions.specs.Changes.{change_of, entered_all}
use Rattle.transactions.specs.Contents.{reception_of}
use Rattle.transactions.specs.Slots.{at}
use Rattle.transactions.specs.declared.change.Entry.{Entry}
use Rattle.transactions.specs.declared.outcome.Verdict.TheVariants as verdicts
use Rattle.transactions.specs.declared.transaction.Transaction.{Transaction}

-- the transaction of this number is of a request with these parts
pub record StandsFor (slots : List (Option Transaction)) (id : ℕ) (parts : Parts) : Type 0 where
  pub transaction : Transaction
  pub stands : at slots id ≡ Some transaction
  pub same : transaction.parts ≡ parts

-- what the transactions do first with the request
abbrev pub entries_of : Office → Setting → Request → List Entry
entries_of s e r = change_of s.table (Kinds.Request r) e.source ∷ []

-- The request begins the transaction of this number; the table afterwards has all that the event changes there at this
-- moment, and these are the transactions that begin; and each call waits for an answer to a request whose transaction
-- is live (RFC 3261 section 17.2).
pub record BeginsAt (s after : Office) (more : List Transaction) (moment : ℕ) (r : Request) (id : ℕ) (x : Effect) : Type 0 where
  pub verdict : (reception_of s.table (Kinds.Request r)).verdict ≡ verdicts.New id
  pub table : after.table.slots ≡ (entered_all moment s.table x.plan.changes).slots
  pub begun : more ≡ begun_of x.plan.changes
  pub askers : KnowsAskers after
