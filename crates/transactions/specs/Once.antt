-- A request is new once while its transaction lasts.
use Rattle.std.specs.Prelude.{◌≡◌, ℕ, Bool, true, false, List, [], ◌∷◌, Option, Some, None, IsSome}
use Rattle.std.specs.List.{list_any}
use Rattle.sip_uri.specs.declared.uri.Addr.{Addr}
use Rattle.sip_message.specs.declared.message.Message.TheVariants as Kinds
use Rattle.sip_message.specs.declared.message.Parts.{Parts}
use Rattle.sip_message.specs.declared.message.Request.{Request}
use Rattle.transactions.specs.declared.outcome.Verdict.TheVariants as verdicts
use Rattle.transactions.specs.declared.transaction.Transaction.{Transaction}
use Rattle.transaction_machines.specs.Machines.{is_server}
use Rattle.transactions.specs.Matching.{is_copy}
use Rattle.transactions.specs.Contents.{Contents, reception_of, IsNew}
use Rattle.transactions.specs.Changes.{after_message}
use Rattle.transactions.specs.Calls.{Call, after, after_all, is_ended, noticed}
use Rattle.transactions.specs.Slots.{at, is_asked}

-- a live server transaction has the request's branch, sent-by and method
abbrev pub stands : Contents → Parts → Bool
stands table parts = list_any (is_asked parts) table.slots

-- the same transaction, in any state
pub record IsSameRequest (t u : Transaction) : Type 0 where
  pub side : is_server u.state ≡ is_server t.state
  pub uri : u.uri ≡ t.uri
  pub parts : u.parts ≡ t.parts
  pub place : u.place ≡ t.place

abbrev pub IsLeftBy : Transaction → Bool → Option Transaction → Type 0
IsLeftBy t true u = u ≡ None
IsLeftBy t false None = ⊥
IsLeftBy t false (Some u) = IsSameRequest t u

-- a call takes a transaction away where its line ends it, and nowhere else
abbrev pub IsLeft : Contents → Call → ℕ → Type 0
IsLeft table call id = (t : Transaction) → at table.slots id ≡ Some t → IsLeftBy t (is_ended t id (noticed table call)) (at (after table call).slots id)

-- transaction id is live, and after each of the calls too
abbrev pub Lasts : ℕ → Contents → List Call → Type 0
Lasts id table [] = IsSome (at table.slots id)
Lasts id table (call ∷ calls) = IsSome (at table.slots id) × Lasts id (after table call) calls

-- who was New with a number is not New again, nor a copy, after calls in which transaction id lasts
abbrev pub NewOnce : Contents → Request → Addr → ℕ → List Call → Type 0
NewOnce table r source now calls =
    (id : ℕ) → (reception_of table (Kinds.Request r)).verdict ≡ verdicts.New id
    → Lasts id (after_message table (Kinds.Request r) source now) calls
    → (copy : Request) → is_copy copy.parts r.parts ≡ true
    → IsNew (reception_of (after_all (after_message table (Kinds.Request r) source now) calls) (Kinds.Request copy)).verdict → ⊥
