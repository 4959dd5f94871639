-- The numbers of a script.
use Rattle.std.proofs.Common.{◌≡◌, ℕ, Bool, true, false, cond, ◌≤◌, List, Some, None, refl}
use Rattle.std.specs.Char.{is_ascii_digit}
use Rattle.text.specs.Class.{is_run_of}
use Rattle.text.specs.Number.{number_upto}
use Rattle.text.proofs.CutLaws.{Lacks}
use Rattle.text.proofs.Lists.{run_lacks, some_then}
use Rattle.text.proofs.Numbers.{number_is}
use Rattle.scripts.specs.Limits.{max_port}
use Rattle.scripts.specs.Numbers.{number_of, unless_zero, port_of}

-- a number that was read
pub bounded : (most n : ℕ) (text : List ℕ) → number_of most text ≡ Some n → n ≤ most
bounded most n text h = step (is_run_of is_ascii_digit text) h where
  step : (b : Bool) → cond b (number_upto most text) None ≡ Some n → n ≤ most
  step true h = number_is most n text h
  step false h = absurd cc

-- a number contains only digits
pub number_lacks : (c most n : ℕ) (text : List ℕ) → is_ascii_digit c ≡ false → number_of most text ≡ Some n → Lacks c text
number_lacks c most n text out h = step (is_run_of is_ascii_digit text) refl h where
  step : (b : Bool) → is_run_of is_ascii_digit text ≡ b → cond b (number_upto most text) None ≡ Some n → Lacks c text
  step true run h = run_lacks is_ascii_digit c out text run
  step false run h = absurd cc

pub port_lacks : (c n : ℕ) (text : List ℕ) → is_ascii_digit c ≡ false → port_of text ≡ Some n → Lacks c text
port_lacks c n text out h =
    let some = some_then (number_of max_port text) unless_zero n h in
    number_lacks c max_port some.0 text out some.1
