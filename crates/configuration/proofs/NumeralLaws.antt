-- The names of a list of texts.
use Rattle.std.proofs.Common.{◌≡◌, ◌≤◌, ◌<◌, ◌+◌, ◌-◌, ◌/◌, ◌%◌, ◌++◌, ℕ, zero, suc, [], ◌∷◌, refl, ap, arith}
use Rattle.configuration.specs.Ranges.{numeral, numerals}

-- the next number of a range, and those after it
pub next_numeral : (digits number last : ℕ) → number < last + 1 → numerals digits number (last + 1 - number) ≡ numeral digits number ∷ numerals digits (number + 1) (last + 1 - (number + 1))
next_numeral digits number last less =
    let one_more : last + 1 - number ≡ suc (last + 1 - (number + 1)) = omega (arith, less) in
    ap (numerals digits number) one_more

-- no number is left
pub no_numeral : (digits number last : ℕ) → last + 1 ≤ number → numerals digits number (last + 1 - number) ≡ []
no_numeral digits number last over =
    let none : last + 1 - number ≡ 0 = omega (arith, over) in
    ap (numerals digits number) none

-- a digit more
pub numeral_more : (digits n : ℕ) → (digits ≡ 0 → ⊥) → numeral digits n ≡ numeral (digits - 1) (n / 10) ++ ((48 + n % 10) ∷ [])
numeral_more zero n some = absurd (some refl)
numeral_more (suc digits) n some = let one_less : suc digits - 1 ≡ digits = omega arith in rw one_less refl
