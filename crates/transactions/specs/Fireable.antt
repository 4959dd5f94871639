-- What is so of every table: each timer that is set does something when it fires.
use Rattle.std.specs.Prelude.{◌≡◌, Bool, true, false, not, ◌||◌, List, Option, Some, None, is_some}
use Rattle.std.specs.List.{All}
use Rattle.timers.specs.declared.timers.Timer.{Timer}
use Rattle.transaction_machines.specs.declared.input.TimerKind.{TimerKind}
use Rattle.transaction_machines.specs.Lines.{has_line, repeats}
use Rattle.transactions.specs.declared.transaction.TimerId.{TimerId}
use Rattle.transactions.specs.declared.transaction.Transaction.{Transaction}
use Rattle.transactions.specs.Slots.{at}

abbrev pub has_line_at : Option Transaction → TimerKind → Bool
has_line_at None kind = false
has_line_at (Some t) kind = has_line t.state kind

abbrev pub has_sent : Option Transaction → Bool
has_sent None = true
has_sent (Some t) = not (repeats t.state) || is_some t.last

-- each timer that is set belongs to a transaction with a line for it, and what repeats by timers has sent something
pub record IsFireable (slots : List (Option Transaction)) (timers : List (Timer TimerId)) : Type 0 where
  pub lines : All (λ timer. has_line_at (at slots timer.key.id) timer.key.kind ≡ true) timers
  pub sent : All (λ slot. has_sent slot ≡ true) slots
