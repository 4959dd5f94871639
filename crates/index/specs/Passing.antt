-- The numbers of those in a list that pass a test.
use Rattle.std.specs.Prelude.{ℕ, ◌+◌, Bool, List, [], ◌∷◌, if◌then◌else◌}

-- the places of those that pass, the least first, if the first place has the number n
abbrev pub numbers_from : {X : Type 0} → (X → Bool) → ℕ → List X → List ℕ
numbers_from p n [] = []
numbers_from p n (x ∷ xs) = if p x then n ∷ numbers_from p (1 + n) xs else numbers_from p (1 + n) xs
