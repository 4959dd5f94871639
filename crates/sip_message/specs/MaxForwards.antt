-- The form of Max-Forwards (RFC 3261 sections 20.22 and 25.1).
use Rattle.std.specs.Prelude.{ℕ, List, Option, None, if◌then◌else◌}
use Rattle.std.specs.Char.{is_ascii_digit}
use Rattle.text.specs.Class.{is_run_of}
use Rattle.text.specs.Number.{number_upto}

abbrev pub max_forwards_of : List ℕ → Option ℕ
max_forwards_of text = if is_run_of is_ascii_digit text then number_upto 255 text else None
