-- The limits of what is counted and reported, in milliseconds except for the number of calls.
use Rattle.std.specs.Prelude.{ℕ, ◌*◌}

abbrev pub second : ℕ
second = 1000

abbrev pub minute : ℕ
minute = 60 * second

-- an end is silent if no RTP came from it for this long
abbrev pub silent_time : ℕ
silent_time = 10 * second

-- how many calls are remembered
abbrev pub max_calls : ℕ
max_calls = 256
