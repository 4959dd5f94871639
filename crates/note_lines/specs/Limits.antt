-- The limits of the ledger.
use Rattle.std.specs.Prelude.{ℕ}

-- how many calls are remembered
abbrev pub max_calls : ℕ
max_calls = 256
