-- Texts without blanks at their ends; tokens are among them.
use Rattle.std.proofs.Common.{◌≡◌, ℕ, true, false, List, [], ◌∷◌, refl, ap, ◌∙◌}
use Rattle.std.specs.List.{list_all}
use Rattle.std.proofs.lemmas.Bool.{and_parts}
use Rattle.text.specs.Class.{is_blank, is_token_byte}
use Rattle.text.specs.Trim.{without_blanks, kept, without_end, trimmed}
use Rattle.text.proofs.CutLaws.{differs}
use Rattle.header_fields.specs.Fields.{begins_blank}

pub record IsTrim (t : List ℕ) : Type 0 where
  pub front : begins_blank t ≡ false
  pub back : without_end t ≡ t

without_same : (t : List ℕ) → begins_blank t ≡ false → without_blanks t ≡ t
without_same [] h = refl
without_same (b ∷ t) h = rw h refl

pub trim_same : (t : List ℕ) → IsTrim t → trimmed t ≡ t
trim_same t h = ap without_end (without_same t h.front) ∙ h.back

-- ---- tokens

pub token_not_blank : (b : ℕ) → is_token_byte b ≡ true → is_blank b ≡ false
token_not_blank b h = rw (differs is_token_byte 32 b refl h, differs is_token_byte 9 b refl h) refl

pub token_end : (t : List ℕ) → list_all is_token_byte t ≡ true → without_end t ≡ t
token_end [] h = refl
token_end (b ∷ t) h =
    let parts = and_parts (is_token_byte b) (list_all is_token_byte t) h in
    ap (kept b) (token_end t parts.1) ∙ rw (token_not_blank b parts.0) refl

pub token_front : (t : List ℕ) → list_all is_token_byte t ≡ true → begins_blank t ≡ false
token_front [] h = refl
token_front (b ∷ t) h = token_not_blank b (and_parts (is_token_byte b) (list_all is_token_byte t) h).0

pub token_trimmed : (t : List ℕ) → list_all is_token_byte t ≡ true → trimmed t ≡ t
token_trimmed t h = trim_same t (record { front = token_front t h; back = token_end t h })
