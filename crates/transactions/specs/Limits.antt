-- Limits of the server's own.
use Rattle.std.specs.Prelude.{ℕ}

-- server transactions at most. What the server itself asks is not counted
abbrev pub max_served : ℕ
max_served = 4096
