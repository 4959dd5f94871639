-- A media range that is read in lower case is returned unchanged.
use Rattle.std.proofs.Common.{◌≡◌, ℕ, Bool, true, false, ◌&&◌, ◌||◌, ltb, List, [], ◌∷◌, ◌++◌, Option, Some, None, refl, sym, ap, ◌∙◌, arith}
use Rattle.std.specs.Prelude.{is_some, unwrap_or}
use Rattle.std.specs.Char.{to_ascii_lowercase}
use Rattle.std.specs.List.{list_all}
use Rattle.std.proofs.lemmas.Bool.{and_parts, ltb-true, le-ltb, ne_eqb}
use Rattle.std.proofs.lemmas.List.Folds.{list_all-append}
use Rattle.text.specs.Class.{is_blank}
use Rattle.text.specs.Cut.{before, after, led_by}
use Rattle.text.specs.Trim.{trimmed, without_blanks, without_end}
use Rattle.text.proofs.CutLaws.{joined}
use Rattle.sip_message.specs.Words.{lower_case, is_range_byte, media_range}

kept_byte : (b : ℕ) → is_range_byte b ≡ true → (to_ascii_lowercase b ≡ b) × (is_blank b ≡ false)
kept_byte b h = step (ltb 90 b) (ltb 32 b) (ltb b 65) refl refl refl h where
  step : (high above below : Bool) → ltb 90 b ≡ high → ltb 32 b ≡ above → ltb b 65 ≡ below → (high || above && below) ≡ true → (to_ascii_lowercase b ≡ b) × (is_blank b ≡ false)
  step true above below p q r k =
      let over = ltb-true 90 b p in
      (rw (le-ltb b 65 (omega (arith, over)), le-ltb b 91 (omega (arith, over))) refl, rw (ne_eqb b 32 (λ e. omega (arith, over, e)), ne_eqb b 9 (λ e. omega (arith, over, e))) refl)
  step false true true p q r k =
      let over = ltb-true 32 b q in
      (rw r refl, rw (ne_eqb b 32 (λ e. omega (arith, over, e)), ne_eqb b 9 (λ e. omega (arith, over, e))) refl)
  step false true false p q r k = absurd cc
  step false false below p q r k = absurd cc

kept_lower : (text : List ℕ) → list_all is_range_byte text ≡ true → lower_case text ≡ text
kept_lower [] h = refl
kept_lower (b ∷ bs) h = let parts = and_parts (is_range_byte b) (list_all is_range_byte bs) h in rw ((kept_byte b parts.0).0, kept_lower bs parts.1) refl

kept_front : (text : List ℕ) → list_all is_range_byte text ≡ true → without_blanks text ≡ text
kept_front [] h = refl
kept_front (b ∷ bs) h = rw ((kept_byte b (and_parts (is_range_byte b) (list_all is_range_byte bs) h).0).1) refl

kept_end : (text : List ℕ) → list_all is_range_byte text ≡ true → without_end text ≡ text
kept_end [] h = refl
kept_end (b ∷ bs) h = let parts = and_parts (is_range_byte b) (list_all is_range_byte bs) h in rw ((kept_byte b parts.0).1, kept_end bs parts.1) refl

kept_same : (text : List ℕ) → list_all is_range_byte text ≡ true → lower_case (trimmed text) ≡ text
kept_same text h = ap lower_case (ap without_end (kept_front text h) ∙ kept_end text h) ∙ kept_lower text h

pub range_kept : (text : List ℕ) → is_some (after 47 text) ≡ true → list_all is_range_byte text ≡ true → media_range text ≡ text
range_kept text some kept = step (after 47 text) refl some where
  step : (subtype : Option (List ℕ)) → after 47 text ≡ subtype → is_some subtype ≡ true → lower_case (trimmed (before 47 text)) ++ 47 ∷ lower_case (trimmed (unwrap_or subtype [])) ≡ text
  step None is there = absurd cc
  step (Some subtype) is there =
      let whole : before 47 text ++ 47 ∷ subtype ≡ text = ap (λ (o : Option (List ℕ)). before 47 text ++ led_by 47 o) (sym is) ∙ joined 47 text in
      let parts = and_parts (list_all is_range_byte (before 47 text)) (list_all is_range_byte (47 ∷ subtype)) (sym (list_all-append is_range_byte (before 47 text) (47 ∷ subtype)) ∙ ap (list_all is_range_byte) whole ∙ kept) in
      rw (kept_same (before 47 text) parts.0, kept_same subtype parts.1) whole
