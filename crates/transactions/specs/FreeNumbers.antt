-- Numbers that no transaction has.
use Rattle.std.specs.Prelude.{◌≡◌, ℕ, false, List, [], ◌∷◌, nat_lt}
use Rattle.std.specs.List.{AllByRecursion}

-- Numbers, the least first, and how many more can be put without memory.
pub record Free : Type 0 where
  pub numbers : List ℕ
  pub room : ℕ

-- none is less than one before it
abbrev pub NumbersRise : List ℕ → Type 0
NumbersRise [] = Unit {0}
NumbersRise (n ∷ ns) = AllByRecursion (λ m. nat_lt m n ≡ false) ns × NumbersRise ns
