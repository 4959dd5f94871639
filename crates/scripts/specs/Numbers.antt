-- The numbers of a script.
use Rattle.std.specs.Prelude.{ℕ, ◌==◌, List, Option, Some, None, option_and_then, if◌then◌else◌}
use Rattle.std.specs.Char.{is_ascii_digit}
use Rattle.text.specs.Class.{is_run_of}
use Rattle.text.specs.Number.{number_upto}
use Rattle.scripts.specs.Limits.{max_port}

-- one digit or more, and nothing else: a number that is at most this
abbrev pub number_of : ℕ → List ℕ → Option ℕ
number_of most text = if is_run_of is_ascii_digit text then number_upto most text else None

abbrev pub unless_zero : ℕ → Option ℕ
unless_zero n = if n == 0 then None else Some n

-- a port, which is not 0
abbrev pub port_of : List ℕ → Option ℕ
port_of text = option_and_then unless_zero (number_of max_port text)
