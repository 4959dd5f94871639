-- Lines without CR and NUL, each of which ends at the first CR, LF or NUL.
use Rattle.std.proofs.Common.{◌≡◌, ℕ, zero, suc, ◌<◌, ◌≤◌, Bool, true, false, not, ◌&&◌, ◌||◌, cond, eqb, inl, inr, List, [], ◌∷◌, ◌++◌, length, take, drop, Some, None, refl, sym, ap, subst, ◌∙◌, arith, length-drop}
use Rattle.std.specs.List.{list_all}
use Rattle.std.proofs.lemmas.Bool.{and_from, eqb-true}
use Rattle.std.proofs.lemmas.List.{take-append-drop, append-nil, nil_from_length}
use Rattle.memchr.specs.Find.{Passes, Nowhere, is_byte3}
use Rattle.sdp.specs.Classes.{is_text_byte}
use Rattle.sdp.specs.Lines.{Ends, lines_of, behind_lf, behind_line_end, has_mark, is_clean, is_formed}
use Rattle.sdp.proofs.LineLaws.{clean_first}

text_byte_is : (b : ℕ) → is_text_byte b ≡ not (is_byte3 13 10 0 b)
text_byte_is b = step (eqb b 13) (eqb b 10) (eqb b 0) where
  step : (x y z : Bool) → (not x && not y && not z) ≡ not (x || y || z)
  step true y z = refl
  step false true z = refl
  step false false z = refl

-- the bytes before the first mark
pub clean_upto : (text : List ℕ) (at : ℕ) → at ≤ length text → Nowhere (Passes (is_byte3 13 10 0) text) 0 at → is_clean (take at text) ≡ true
clean_upto text zero le unmarked = refl
clean_upto [] (suc n) le unmarked = absurd (omega arith)
clean_upto (b ∷ bs) (suc n) le unmarked =
    and_from (is_text_byte b) (is_clean (take n bs)) (text_byte_is b ∙ first (is_byte3 13 10 0 b) (λ h. unmarked 0 (omega arith) (omega arith) h))
    (clean_upto bs n (omega arith) (λ k l h p. unmarked (suc k) (omega arith) (omega arith) p)) where
      first : (e : Bool) → (e ≡ true → ⊥) → not e ≡ true
      first true none = absurd (none refl)
      first false none = refl

lf_is : (bs rest : List ℕ) → behind_lf bs ≡ Some rest → bs ≡ 10 ∷ rest
lf_is [] rest h = absurd cc
lf_is (b ∷ bs) rest h = step (eqb b 10) (λ e. eqb-true b 10 e) h where
  step : (e : Bool) → (e ≡ true → b ≡ 10) → cond e (Some bs) None ≡ Some rest → b ∷ bs ≡ 10 ∷ rest
  step true is k = let same : bs ≡ rest = cc in ap (λ (x : ℕ). x ∷ bs) (is refl) ∙ ap (λ (t : List ℕ). 10 ∷ t) same
  step false is k = absurd cc

-- a text that begins with a line end
ends_here : (line more rest : List ℕ) → behind_line_end more ≡ Some rest → Ends line rest (line ++ more)
ends_here line [] rest h = absurd cc
ends_here line (b ∷ bs) rest h = step (eqb b 10) (eqb b 13) (λ e. eqb-true b 10 e) (λ e. eqb-true b 13 e) h where
  step : (e f : Bool) → (e ≡ true → b ≡ 10) → (f ≡ true → b ≡ 13) → cond e (Some bs) (cond f (behind_lf bs) None) ≡ Some rest → Ends line rest (line ++ b ∷ bs)
  step true f is k g = let same : bs ≡ rest = cc in inl (ap (λ (x : ℕ). line ++ x ∷ bs) (is refl) ∙ ap (λ (t : List ℕ). line ++ 10 ∷ t) same)
  step false true is k g = inr (ap (λ (x : ℕ). line ++ x ∷ bs) (k refl) ∙ ap (λ (t : List ℕ). line ++ 13 ∷ t) (lf_is bs rest g))
  step false false is k g = absurd cc

pub clean_line_at : (text : List ℕ) (at : ℕ) (rest : List ℕ) → at < length text → Nowhere (Passes (is_byte3 13 10 0) text) 0 at → behind_line_end (drop at text) ≡ Some rest
    → lines_of text ≡ take at text ∷ lines_of rest
clean_line_at text at rest lt unmarked h =
    let ends : Ends (take at text) rest text = subst (λ (t : List ℕ). Ends (take at text) rest t) (take-append-drop at text) (ends_here (take at text) (drop at text) rest h) in
    clean_first (take at text) rest text (clean_upto text at (omega arith) unmarked) ends

-- what comes after a line end is shorter
behind_lf_shorter : (bs rest : List ℕ) → behind_lf bs ≡ Some rest → length rest < length bs
behind_lf_shorter bs rest h = rw (lf_is bs rest h) (omega arith)

behind_shorter : (bs rest : List ℕ) → behind_line_end bs ≡ Some rest → length rest < length bs
behind_shorter [] rest h = absurd cc
behind_shorter (b ∷ bs) rest h = step (eqb b 10) (eqb b 13) h where
  step : (e f : Bool) → cond e (Some bs) (cond f (behind_lf bs) None) ≡ Some rest → length rest < suc (length bs)
  step true f g = let same : bs ≡ rest = cc in rw (← same) (omega arith)
  step false true g = let lt = behind_lf_shorter bs rest g in omega (arith, lt)
  step false false g = absurd cc

pub rest_shorter_at : (text : List ℕ) (at : ℕ) (rest : List ℕ) → behind_line_end (drop at text) ≡ Some rest → length rest < length text
rest_shorter_at text at rest h = let lt = behind_shorter (drop at text) rest h in omega (arith, lt, length-drop at text)

no_lines : lines_of [] ≡ []
unfolding lines_of
no_lines = refl

-- if nothing is left, the lines so far are all
pub all_lines : (lines : List (List ℕ)) (rest text : List ℕ) → eqb (length rest) 0 ≡ true → lines ++ lines_of rest ≡ lines_of text → lines ≡ lines_of text
all_lines lines rest text none so_far =
    let empty : rest ≡ [] = nil_from_length rest (eqb-true _ _ none) in
    sym (append-nil lines) ∙ sym (ap (λ (r : List ℕ). lines ++ lines_of r) empty ∙ ap (λ (ls : List (List ℕ)). lines ++ ls) no_lines) ∙ so_far

-- ---- the tests of a line by parts

pub formed_by_parts : (lines : List (List ℕ)) → (list_all is_clean lines && list_all has_mark lines) ≡ list_all is_formed lines
formed_by_parts [] = refl
formed_by_parts (line ∷ lines) = step (is_clean line) (list_all is_clean lines) (has_mark line) (list_all has_mark lines) (list_all is_formed lines) (formed_by_parts lines) where
  step : (a b c d e : Bool) → (b && d) ≡ e → ((a && b) && (c && d)) ≡ ((c && a) && e)
  step true b true d e h = h
  step true true false d e h = refl
  step true false false d e h = refl
  step false b true d e h = refl
  step false b false d e h = refl
