-- The places of the table, and the index by which its transactions are looked up.
use Rattle.std.specs.Prelude.{◌≡◌, ℕ, ◌+◌, ◌≤◌, Bool, false, List, length, Option, Some, None, is_none, nat_eq, count_by}
use Rattle.index.specs.Buckets.{Bucketed, numbers_in}
use Rattle.index.specs.Numbers.{Indexed}
use Rattle.index.specs.Passing.{numbers_from}
use Rattle.transaction_machines.specs.declared.state.State.{State}
use Rattle.transaction_machines.specs.Machines.{is_server}
use Rattle.transactions.specs.declared.transaction.Transaction.{Transaction}
use Rattle.index.specs.declared.print.PrintKey.{PrintKey}
use Rattle.index.specs.PrintKeys.{print_of}
use Rattle.transactions.specs.Prints.{branch_print, source_print, tag_print}
use Rattle.transactions.specs.FreeNumbers.{Free}
use Rattle.transactions.specs.Slots.{at, is_serving}

-- The transactions by their numbers, the key of their prints, and how many more can begin without memory.
pub record Placed : Type 0 where
  pub slots : List (Option Transaction)
  pub key : PrintKey
  pub room : ℕ

-- a transaction whose top Via has a branch of this print
abbrev pub has_branch : PrintKey → ℕ → Option Transaction → Bool
has_branch key print None = false
has_branch key print (Some t) = nat_eq (branch_print key t.parts.vias) print

-- a transaction with a Call-ID of this print
abbrev pub has_call : PrintKey → ℕ → Option Transaction → Bool
has_call key print None = false
has_call key print (Some t) = nat_eq (print_of key t.parts.call_id) print

-- a transaction with a From tag of this print
abbrev pub has_tag : PrintKey → ℕ → Option Transaction → Bool
has_tag key print None = false
has_tag key print (Some t) = nat_eq (tag_print key t.parts.from.params) print

-- a server transaction whose source has this print, which is not 0
abbrev pub has_source : ℕ → Option Transaction → Bool
has_source print None = false
has_source print (Some t) = nat_eq (source_print t) print

-- Under each print are the numbers of the transactions that have it, and of no other.
pub record IsIndexed (key : PrintKey) (slots : List (Option Transaction)) (branches calls tags sources : List Indexed) (free : List ℕ) (serving : ℕ) : Type 0 where
  pub by_branch : (print : ℕ) → numbers_in branches print ≡ numbers_from (has_branch key print) 0 slots
  pub by_call : (print : ℕ) → numbers_in calls print ≡ numbers_from (has_call key print) 0 slots
  pub by_tag : (print : ℕ) → numbers_in tags print ≡ numbers_from (has_tag key print) 0 slots
  pub by_source : (print : ℕ) → numbers_in sources print ≡ numbers_from (has_source print) 0 slots
  pub without : free ≡ numbers_from is_none 0 slots
  pub servers : serving ≡ count_by is_serving slots

-- So many transactions more can begin, and all can end, without memory.
pub record HasRoom (used capacity : ℕ) (branches calls tags sources : Bucketed) (free : Free) (room : ℕ) : Type 0 where
  pub for_slots : used + room ≤ capacity
  pub for_branches : room ≤ branches.room
  pub for_calls : room ≤ calls.room
  pub for_tags : room ≤ tags.room
  pub for_sources : room ≤ sources.room
  pub for_ends : used + room ≤ length free.numbers + free.room

-- a transaction is on this side in its next state: a server transaction stays one (RFC 3261 section 17)
abbrev pub KeepsSide : List (Option Transaction) → ℕ → State → Type 0
KeepsSide slots id state = (t : Transaction) → at slots id ≡ Some t → is_server state ≡ is_server t.state
