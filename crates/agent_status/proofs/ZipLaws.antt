-- Two lists side by side, one of which is at its end.
use Rattle.std.proofs.Common.{◌≡◌, sym, subst, refl, List, [], ◌∷◌, ◌⊎◌, inl, inr, map}
use Rattle.std.specs.List.{zip}

beside_nothing : {A B C : Type 0} (f : A × B → C) (xs : List A) → map f (zip xs []) ≡ []
beside_nothing f [] = refl
beside_nothing f (x ∷ xs) = refl

-- nothing is left of both
pub nothing_left : {A B C : Type 0} (f : A × B → C) (xs : List A) (ys : List B) → (xs ≡ []) ⊎ (ys ≡ []) → map f (zip xs ys) ≡ []
nothing_left f xs ys (inl n) = subst (λ l. map f (zip l ys) ≡ []) (sym n) refl
nothing_left f xs ys (inr n) = subst (λ l. map f (zip xs l) ≡ []) (sym n) (beside_nothing f xs)
