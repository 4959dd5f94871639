-- The hops of a message that gives none.
use Rattle.std.specs.Prelude.{ℕ}

-- the number that RFC 3261 section 8.1.1.6 gives
abbrev pub usual_hops : ℕ
usual_hops = 70
