-- When the counts of events are logged.
use Rattle.std.specs.Prelude.{◌+◌, ℕ, min}

-- this many milliseconds after they were logged last
abbrev pub between_counts : ℕ
between_counts = 600000

abbrev pub next_after : ℕ → ℕ
next_after now = min (now + between_counts) 18446744073709551615
