-- The order of entries.
use Rattle.std.proofs.Common.{◌≡◌, ℕ, ◌<◌, ◌≤◌, Bool, true, false, ◌&&◌, ◌||◌, ltb, eqb, ◌⊎◌, arith}
use Rattle.std.proofs.lemmas.Bool.Decides.{nat_tests}

-- the entry of print a and number b comes before p and n
abbrev pub before : ℕ → ℕ → ℕ → ℕ → Bool
before a b p n = ltb a p || (eqb a p && ltb b n)

pub before_less : (a b p n : ℕ) → a < p → before a b p n ≡ true
before_less a b p n lt = grind (arith, nat_tests)

pub before_same : (a b p n : ℕ) → a ≡ p → b < n → before a b p n ≡ true
before_same a b p n e lt = grind (arith, nat_tests)

pub behind_more : (a b p n : ℕ) → p < a → before a b p n ≡ false
behind_more a b p n lt = grind (arith, nat_tests)

pub behind_same : (a b p n : ℕ) → a ≡ p → n ≤ b → before a b p n ≡ false
behind_same a b p n e le = grind (arith, nat_tests)

pub was_before : (a b p n : ℕ) → before a b p n ≡ true → (a < p) ⊎ ((a ≡ p) × (b < n))
was_before a b p n h = grind (arith, nat_tests)

pub was_behind : (a b p n : ℕ) → before a b p n ≡ false → (p < a) ⊎ ((a ≡ p) × (n ≤ b))
was_behind a b p n h = grind (arith, nat_tests)

-- what does not come before one that does not come before p and n does not come before them either
pub behind_behind : (a b c d p n : ℕ) → before a b p n ≡ false → before c d a b ≡ false → before c d p n ≡ false
behind_behind a b c d p n first second = grind (arith, nat_tests)

-- what comes before another has that one not before it: the order is total
pub before_not : (a b p n : ℕ) → before a b p n ≡ true → before p n a b ≡ false
before_not a b p n h = grind (arith, nat_tests)
