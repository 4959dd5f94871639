-- The first that passes among some, and one more.
use Rattle.std.proofs.Common.{◌≡◌, ℕ, ◌<◌, Bool, true, false, not, ◌&&◌, cond, List, [], ◌∷◌, length, take, slice_index_or, find, Option, Some, None, is_some, refl, ap, ◌∙◌, suc}
use Rattle.std.specs.Option.{option_or}
use Rattle.std.proofs.Math.Seq.{take-suc}
use Rattle.std.proofs.lemmas.List.Folds.{find-append}

pub find_more : {X : Type 0} (p : X → Bool) (xs : List X) (at : ℕ) (d : X) → at < length xs → find p (take (suc at) xs) ≡ option_or (find p (take at xs)) (find p (slice_index_or xs at d ∷ []))
find_more {X} p xs at d there = ap (λ (l : List X). find p l) (take-suc xs at d there) ∙ find-append p (take at xs) (slice_index_or xs at d ∷ [])

-- the first was there already, or the one more is not one
pub as_before : {X : Type 0} (p : X → Bool) (found : Option X) (x : X) → (not (is_some found) && p x) ≡ false → option_or found (find p (x ∷ [])) ≡ found
as_before p (Some y) x none = refl
as_before {X} p None x none = ap (λ (b : Bool). cond b (Some x) None) none

pub is_first : {X : Type 0} (p : X → Bool) (found : Option X) (x : X) → (not (is_some found) && p x) ≡ true → option_or found (find p (x ∷ [])) ≡ Some x
is_first p (Some y) x first = absurd cc
is_first {X} p None x first = ap (λ (b : Bool). cond b (Some x) None) first
