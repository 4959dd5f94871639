-- Texts that do not end in a blank.
use Rattle.std.proofs.Common.{◌≡◌, ℕ, false, List, ◌∷◌, refl, ap, ◌∙◌}
use Rattle.text.specs.Class.{is_blank}
use Rattle.text.specs.Trim.{kept, without_end}

-- a byte that is not a blank, before a text that does not end in one
pub end_after : (b : ℕ) (t : List ℕ) → is_blank b ≡ false → without_end t ≡ t → without_end (b ∷ t) ≡ b ∷ t
end_after b t h e = ap (kept b) e ∙ rw h refl
