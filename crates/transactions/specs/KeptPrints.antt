-- The prints of the places, which are kept with them, so that the index is changed at an end without making them
-- again.
use Rattle.std.specs.Prelude.{◌≡◌, ℕ, ◌+◌, ◌≤◌, List, map, Option}
use Rattle.index.specs.declared.print.PrintKey.{PrintKey}
use Rattle.transactions.specs.declared.print.Prints.{Prints}
use Rattle.transactions.specs.declared.transaction.Transaction.{Transaction}
use Rattle.transactions.specs.Prints.{prints_at}

-- each place's prints are at its number, and there is room for those of this many more transactions
pub record AreNoted (key : PrintKey) (slots : List (Option Transaction)) (prints : List Prints) (used capacity room : ℕ) : Type 0 where
  pub noted : prints ≡ map (prints_at key) slots
  pub for_prints : used + room ≤ capacity
