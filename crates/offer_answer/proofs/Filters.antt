-- A list that is filtered one by one.
use Rattle.std.proofs.Common.{◌≡◌, ◌∙◌, ◌<◌, ◌+◌, ℕ, Bool, true, List, [], ◌∷◌, ◌++◌, length, get_or, take, filter, refl, sym}
use Rattle.std.proofs.lemmas.List.Elements.{filter_more}

pub filter_put : {X : Type 0} (p : X → Bool) (xs : List X) (i : ℕ) (x : X) → i < length xs → x ≡ get_or xs i x → p x ≡ true → filter p (take (i + 1) xs) ≡ filter p (take i xs) ++ x ∷ []
filter_put p xs i x within at passes = filter_more p xs i x within ∙ rw (sym at) (rw passes refl)
