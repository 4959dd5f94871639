-- When snapshots are made for the page.
use Rattle.std.specs.Prelude.{◌+◌, ℕ, min}

-- this many milliseconds after the last one
abbrev pub between_snapshots : ℕ
between_snapshots = 1000

abbrev pub next_after : ℕ → ℕ
next_after now = min (now + between_snapshots) 18446744073709551615
