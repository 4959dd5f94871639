-- How many turns a command line asks for.
use Rattle.std.specs.Prelude.{ℕ, List, Option, option_and_then}
use Rattle.scripts.specs.Limits.{max_number}
use Rattle.scripts.specs.Numbers.{number_of, unless_zero}

-- a number from 1, below 2^64
abbrev pub turns_of : List ℕ → Option ℕ
turns_of text = option_and_then unless_zero (number_of max_number text)
