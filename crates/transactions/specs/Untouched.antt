-- A call that gives a transaction no input leaves it as it was, with its timers.
use Rattle.std.specs.Prelude.{◌≡◌, ℕ, ◌==◌, Bool, false, List, filter, Option, Some, None}
use Rattle.timers.specs.declared.timers.Timer.{Timer}
use Rattle.transactions.specs.declared.transaction.TimerId.{TimerId}
use Rattle.transactions.specs.declared.transaction.Transaction.{Transaction}
use Rattle.transactions.specs.Slots.{at}
use Rattle.transactions.specs.Contents.{Contents}
use Rattle.transactions.specs.Calls.{Call, Notice, after, noticed}

-- the call gives transaction id an input
abbrev pub is_told : ℕ → Option Notice → Bool
is_told id None = false
is_told id (Some notice) = notice.id == id

-- the timers of a transaction, in the order in which they are due
abbrev pub own_timers : ℕ → List (Timer TimerId) → List (Timer TimerId)
own_timers id timers = filter (λ t. t.key.id == id) timers

-- transaction id, which is t, is as it was
pub record IsUntouched (before now_there : Contents) (id : ℕ) (t : Transaction) : Type 0 where
  pub same : at now_there.slots id ≡ Some t
  pub timers : own_timers id now_there.timers ≡ own_timers id before.timers

abbrev pub LeavesOthers : Contents → Call → Type 0
LeavesOthers table call =
    (id : ℕ) (t : Transaction) → at table.slots id ≡ Some t → is_told id (noticed table call) ≡ false → IsUntouched table (after table call) id t
