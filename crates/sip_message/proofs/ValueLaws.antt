-- Texts without blanks at their ends, and the classes of their bytes.
use Rattle.std.proofs.Common.{◌≡◌, ℕ, suc, Bool, true, false, ◌&&◌, cond, eqb, List, [], ◌∷◌, ◌++◌, length, map, Some, refl, ap, ◌∙◌}
use Rattle.std.specs.Prelude.{nat_eq, unwrap_or}
use Rattle.std.specs.List.{list_all}
use Rattle.std.specs.Cmp.Lexicographic.{pointwise, bytes_decides}
use Rattle.std.proofs.lemmas.Bool.{and_parts, and_from, ne_eqb}
use Rattle.text.specs.Class.{is_blank, is_token_byte}
use Rattle.text.specs.Cut.{after}
use Rattle.text.specs.Trim.{without_blanks, kept, without_end, trimmed}
use Rattle.text.proofs.CutLaws.{differs}
use Rattle.sip_uri.proofs.BlankLaws.{end_again}
pub use Rattle.header_fields.proofs.TokenLaws.{IsTrim, trim_same, token_not_blank, token_end, token_front, token_trimmed}
use Rattle.header_fields.specs.Lines.{is_text_byte, is_clean}
use Rattle.header_fields.specs.Fields.{begins_blank, begun_value}
use Rattle.header_fields.specs.Glue.{glue, unfolded}

-- ---- equal texts

pub text_same : (a b : List ℕ) → a ≡ b → pointwise nat_eq a b ≡ true
text_same a b e = (bytes_decides a b).1 e

-- ---- bytes of a token

pub token_text_byte : (b : ℕ) → is_token_byte b ≡ true → is_text_byte b ≡ true
token_text_byte b h = rw (differs is_token_byte 13 b refl h, differs is_token_byte 10 b refl h, differs is_token_byte 0 b refl h) refl

pub token_clean : (t : List ℕ) → list_all is_token_byte t ≡ true → is_clean t ≡ true
token_clean [] h = refl
token_clean (b ∷ t) h =
    let parts = and_parts (is_token_byte b) (list_all is_token_byte t) h in
    and_from (is_text_byte b) (is_clean t) (token_text_byte b parts.0) (token_clean t parts.1)

-- ---- texts without blanks at their ends

without_front : (t : List ℕ) → begins_blank (without_blanks t) ≡ false
without_front [] = refl
without_front (b ∷ t) = step (is_blank b) refl (without_front t) where
  step : (e : Bool) → is_blank b ≡ e → begins_blank (without_blanks t) ≡ false → begins_blank (cond e (without_blanks t) (b ∷ t)) ≡ false
  step true same h = h
  step false same h = same

end_front : (t : List ℕ) → begins_blank t ≡ false → begins_blank (without_end t) ≡ false
end_front [] h = refl
end_front (b ∷ t) h = rw h h

pub trimmed_is : (t : List ℕ) → IsTrim (trimmed t)
trimmed_is t = record { front = end_front (without_blanks t) (without_front t); back = end_again (without_blanks t) }

-- ---- pieces of a value

pub kept_before : (x y : ℕ) (t : List ℕ) → kept x (y ∷ t) ≡ x ∷ y ∷ t
kept_before x y t = step (is_blank x) where
  step : (e : Bool) → cond (e && eqb (suc (length t)) 0) [] (x ∷ y ∷ t) ≡ x ∷ y ∷ t
  step true = rw (ne_eqb (suc (length t)) 0 (λ e. cc)) refl
  step false = refl

pub end_behind : (a : List ℕ) (y : ℕ) (b : List ℕ) → without_end (y ∷ b) ≡ y ∷ b → without_end (a ++ y ∷ b) ≡ a ++ y ∷ b
end_behind [] y b h = h
end_behind (x ∷ []) y b h = ap (kept x) h ∙ kept_before x y b
end_behind (x ∷ z ∷ a) y b h = ap (kept x) (end_behind (z ∷ a) y b h) ∙ kept_before x z (a ++ y ∷ b)

pub glue_trim : (a b : List ℕ) → IsTrim a → IsTrim b → IsTrim (glue a b)
glue_trim [] b h k = k
glue_trim (x ∷ a) [] h k = h
glue_trim (x ∷ a) (y ∷ b) h k =
    let space : without_end (32 ∷ y ∷ b) ≡ 32 ∷ y ∷ b = ap (kept 32) k.back ∙ kept_before 32 y b in
    record { front = h.front; back = end_behind (x ∷ a) 32 (y ∷ b) space }

pub unfolded_trim : (ps : List (List ℕ)) → IsTrim (unfolded (map trimmed ps))
unfolded_trim [] = record { front = refl; back = refl }
unfolded_trim (p ∷ ps) = glue_trim (trimmed p) (unfolded (map trimmed ps)) (trimmed_is p) (unfolded_trim ps)

-- ---- clean texts

pub clean_joined : (a b : List ℕ) → is_clean a ≡ true → is_clean b ≡ true → is_clean (a ++ b) ≡ true
clean_joined [] b h k = k
clean_joined (x ∷ a) b h k =
    let parts = and_parts (is_text_byte x) (is_clean a) h in
    and_from (is_text_byte x) (is_clean (a ++ b)) parts.0 (clean_joined a b parts.1 k)

clean_front : (t : List ℕ) → is_clean t ≡ true → is_clean (without_blanks t) ≡ true
clean_front [] h = refl
clean_front (b ∷ t) h = step (is_blank b) (clean_front t (and_parts (is_text_byte b) (is_clean t) h).1) where
  step : (e : Bool) → is_clean (without_blanks t) ≡ true → is_clean (cond e (without_blanks t) (b ∷ t)) ≡ true
  step true k = k
  step false k = h

clean_end : (t : List ℕ) → is_clean t ≡ true → is_clean (without_end t) ≡ true
clean_end [] h = refl
clean_end (b ∷ t) h = step (is_blank b && eqb (length (without_end t)) 0) (clean_end t (and_parts (is_text_byte b) (is_clean t) h).1) where
  step : (e : Bool) → is_clean (without_end t) ≡ true → is_clean (cond e [] (b ∷ without_end t)) ≡ true
  step true k = refl
  step false k = and_from (is_text_byte b) (is_clean (without_end t)) (and_parts (is_text_byte b) (is_clean t) h).0 k

pub trimmed_clean : (t : List ℕ) → is_clean t ≡ true → is_clean (trimmed t) ≡ true
trimmed_clean t h = clean_end (without_blanks t) (clean_front t h)

pub begun_clean : (t : List ℕ) → is_clean t ≡ true → is_clean (begun_value t) ≡ true
begun_clean [] h = refl
begun_clean (b ∷ t) h = step (eqb b 58) (and_parts (is_text_byte b) (is_clean t) h).1 (begun_clean t (and_parts (is_text_byte b) (is_clean t) h).1) where
  step : (e : Bool) → is_clean t ≡ true → is_clean (begun_value t) ≡ true → is_clean (unwrap_or (cond e (Some t) (after 58 t)) []) ≡ true
  step true k more = k
  step false k more = more

glue_clean : (a b : List ℕ) → is_clean a ≡ true → is_clean b ≡ true → is_clean (glue a b) ≡ true
glue_clean [] b h k = k
glue_clean (x ∷ a) [] h k = h
glue_clean (x ∷ a) (y ∷ b) h k = clean_joined (x ∷ a) (32 ∷ y ∷ b) h k

pub unfolded_clean : (ps : List (List ℕ)) → list_all is_clean ps ≡ true → is_clean (unfolded (map trimmed ps)) ≡ true
unfolded_clean [] h = refl
unfolded_clean (p ∷ ps) h =
    let parts = and_parts (is_clean p) (list_all is_clean ps) h in
    glue_clean (trimmed p) (unfolded (map trimmed ps)) (trimmed_clean p parts.0) (unfolded_clean ps parts.1)
