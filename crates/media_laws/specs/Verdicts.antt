-- What the transactions do by themselves with a message (RFC 3261 section 17).
use Rattle.transactions.specs.declared.outcome.Verdict.{Verdict}
use Rattle.transactions.specs.declared.outcome.Verdict.TheVariants.{New, Repeat, Stray, Swallowed, Up}

-- it is swallowed, or gets again what was sent
abbrev pub IsTransactions : Verdict → Type 0
IsTransactions (New id) = ⊥
IsTransactions Repeat = Unit {0}
IsTransactions Swallowed = Unit {0}
IsTransactions (Up id) = ⊥
IsTransactions Stray = ⊥
