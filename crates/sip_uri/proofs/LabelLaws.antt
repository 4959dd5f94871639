-- The end of a text, without its dot.
use Rattle.std.proofs.Common.{◌≡◌, ℕ, Bool, true, false, ◌&&◌, cond, eqb, List, [], ◌∷◌, ◌++◌, length, refl, ap, ◌∙◌}
use Rattle.text.proofs.Lists.{more_than_nothing}
use Rattle.sip_uri.specs.Hosts.{without_dot}

inner : (x : ℕ) (rest : List ℕ) → eqb (length rest) 0 ≡ false → without_dot (x ∷ rest) ≡ x ∷ without_dot rest
inner x rest h = step (eqb x 46) (eqb (length rest) 0) h where
  step : (e f : Bool) → f ≡ false → cond (e && f) [] (x ∷ without_dot rest) ≡ x ∷ without_dot rest
  step true false k = refl
  step true true k = absurd cc
  step false f k = refl

pub dot_at_end : (xs : List ℕ) → without_dot (xs ++ 46 ∷ []) ≡ xs
dot_at_end [] = refl
dot_at_end (x ∷ xs) = inner x (xs ++ 46 ∷ []) (more_than_nothing xs 46) ∙ ap (λ (t : List ℕ). x ∷ t) (dot_at_end xs)

pub other_at_end : (xs : List ℕ) (b : ℕ) → eqb b 46 ≡ false → without_dot (xs ++ b ∷ []) ≡ xs ++ b ∷ []
other_at_end [] b h = rw h refl
other_at_end (x ∷ xs) b h = inner x (xs ++ b ∷ []) (more_than_nothing xs b) ∙ ap (λ (t : List ℕ). x ∷ t) (other_at_end xs b h)
