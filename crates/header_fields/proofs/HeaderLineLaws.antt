-- The lines up to the empty line: what is read is there, and what is there is read.
use Rattle.std.proofs.Common.{◌≡◌, ℕ, zero, suc, ◌<◌, Bool, true, false, not, ◌&&◌, cond, eqb, List, [], ◌∷◌, ◌++◌, length, Option, Some, None, refl, sym, ap, subst, ◌∙◌, append_assoc, arith}
use Rattle.std.specs.Prelude.{option_and_then}
use Rattle.std.specs.List.{list_all}
use Rattle.std.proofs.lemmas.Bool.{ne_eqb, eqb-true, eqb-false, and_parts, and_from}
use Rattle.std.proofs.lemmas.List.{nil_from_length}
use Rattle.header_fields.specs.Lines.{begins_line_end, before_line_end, after_line_end, is_text_byte, is_clean, line_of, is_line, lines_text, IsHead, with_lines, next_lines, lines_within}
use Rattle.header_fields.proofs.LineLaws.{first_line_joined}

-- ---- a line that is there is read

no_end : (b : ℕ) (bs : List ℕ) → is_text_byte b ≡ true → begins_line_end (b ∷ bs) ≡ false
no_end b bs h = step (eqb b 13) (λ e. eqb-false b 13 e) h where
  step : (e : Bool) → (e ≡ false → b ≡ 13 → ⊥) → (not e && not (eqb b 10) && not (eqb b 0)) ≡ true → begins_line_end (b ∷ bs) ≡ false
  step true other k = absurd cc
  step false other k = rw (ne_eqb 13 b (λ same. other refl (sym same))) refl

pub before_again : (line rest : List ℕ) → is_clean line ≡ true → before_line_end (line ++ 13 ∷ 10 ∷ rest) ≡ line
before_again [] rest h = refl
before_again (b ∷ bs) rest h =
    let parts = and_parts (is_text_byte b) (is_clean bs) h in
    rw (no_end b (bs ++ 13 ∷ 10 ∷ rest) parts.0) (ap (λ (t : List ℕ). b ∷ t) (before_again bs rest parts.1))

pub after_again : (line rest : List ℕ) → is_clean line ≡ true → after_line_end (line ++ 13 ∷ 10 ∷ rest) ≡ Some rest
after_again [] rest h = refl
after_again (b ∷ bs) rest h =
    let parts = and_parts (is_text_byte b) (is_clean bs) h in
    rw (no_end b (bs ++ 13 ∷ 10 ∷ rest) parts.0) (after_again bs rest parts.1)

line_again : (line rest : List ℕ) → is_clean line ≡ true → line_of (line ++ 13 ∷ 10 ∷ rest) ≡ Some (line, rest)
line_again line rest h = rw (after_again line rest h, before_again line rest h, h) refl

not_empty : (line : List ℕ) → is_line line ≡ true → eqb (length line) 0 ≡ false
not_empty line h = step (eqb (length line) 0) h where
  step : (e : Bool) → (not e && is_clean line) ≡ true → e ≡ false
  step true k = absurd cc
  step false k = refl

-- lines, fewer than the limit, that are there are read
pub lines_again : (limit : ℕ) (lines : List (List ℕ)) (body : List ℕ) → length lines < limit → list_all is_line lines ≡ true
    → lines_within limit (lines_text lines ++ (13 ∷ 10 ∷ body)) ≡ Some (lines, body)
unfolding lines_within
lines_again zero lines body few h = absurd (omega arith)
lines_again (suc n) [] body few h = refl
lines_again (suc n) (line ∷ lines) body few h =
    let parts = and_parts (is_line line) (list_all is_line lines) h in
    let clean = and_parts (not (eqb (length line) 0)) (is_clean line) parts.0 in
    let more : List ℕ = lines_text lines ++ (13 ∷ 10 ∷ body) in
    let regrouped : lines_text (line ∷ lines) ++ (13 ∷ 10 ∷ body) ≡ line ++ 13 ∷ 10 ∷ more = simp append_assoc in
    rw (regrouped, line_again line more clean.1, not_empty line parts.0, lines_again n lines body (omega arith) parts.1) refl

-- ---- a line that is read is there

abbrev pair_of : List ℕ → List ℕ → List ℕ × List ℕ
pair_of l r = (l, r)

abbrev some_of : List ℕ → List ℕ → Option (List ℕ × List ℕ)
some_of l r = Some (l, r)

same_pair : (l r line rest : List ℕ) → some_of l r ≡ some_of line rest → (l ≡ line) × (r ≡ rest)
same_pair l r line rest e = let p : pair_of l r ≡ pair_of line rest = cc in (ap (λ (x : List ℕ × List ℕ). x.0) p, ap (λ (x : List ℕ × List ℕ). x.1) p)

abbrev option_then : List ℕ → Option (List ℕ) → Option (List ℕ × List ℕ)
option_then text o = option_and_then (λ rest. cond (is_clean (before_line_end text)) (some_of (before_line_end text) rest) None) o

-- a line that is read is there, and clean
pub line_parts : (text line rest : List ℕ) → line_of text ≡ Some (line, rest) → (text ≡ line ++ 13 ∷ 10 ∷ rest) × (is_clean line ≡ true)
line_parts text line rest h = step (after_line_end text) refl h where
  clean : (r : List ℕ) (e : Bool) → after_line_end text ≡ Some r → is_clean (before_line_end text) ≡ e → cond e (some_of (before_line_end text) r) None ≡ Some (line, rest) → (text ≡ line ++ 13 ∷ 10 ∷ rest) × (is_clean line ≡ true)
  clean r true after tested k =
      let same = same_pair (before_line_end text) r line rest k in
      let whole : text ≡ before_line_end text ++ 13 ∷ 10 ∷ r = first_line_joined text r after in
      (whole ∙ ap (λ (l : List ℕ). l ++ 13 ∷ 10 ∷ r) same.0 ∙ ap (λ (t : List ℕ). line ++ 13 ∷ 10 ∷ t) same.1, ap is_clean (sym same.0) ∙ tested)
  clean r false after tested k = absurd cc

  step : (o : Option (List ℕ)) → after_line_end text ≡ o → option_then text o ≡ Some (line, rest) → (text ≡ line ++ 13 ∷ 10 ∷ rest) × (is_clean line ≡ true)
  step None after k = absurd cc
  step (Some r) after k = clean r (is_clean (before_line_end text)) after refl k

abbrev Lines : Type 0
Lines = List (List ℕ) × List ℕ

abbrev found : Lines → Option Lines
found x = Some x

abbrev made : List (List ℕ) → List ℕ → Lines
made ls body = (ls, body)

read_is : (x y : Lines) → found x ≡ found y → x ≡ y
read_is x y e = cc

with_is : (line : List ℕ) (o : Option Lines) (y : Lines) → with_lines (line ∷ []) o ≡ Some y → (x : Lines) × (o ≡ Some x) × (made (line ∷ x.0) x.1 ≡ y)
with_is line None y h = absurd cc
with_is line (Some x) y h = (x, refl, read_is (made (line ∷ x.0) x.1) y h)

line_joined : (a b c : List ℕ) → a ++ 13 ∷ 10 ∷ (b ++ c) ≡ ((a ++ 13 ∷ 10 ∷ []) ++ b) ++ c
line_joined a b c = simp append_assoc

by_line : (n : ℕ) (text : List ℕ) (y : Lines) (o : Option (List ℕ × List ℕ)) → line_of text ≡ o → next_lines o (lines_within n) ≡ Some y
    → ((t : List ℕ) (x : Lines) → lines_within n t ≡ Some x → IsHead t x.0 x.1 × (length x.0 < n)) → IsHead text y.0 y.1 × (length y.0 < suc n)
by_line n text y None e k more = absurd cc
by_line n text y (Some p) e k more = step (eqb (length p.0) 0) refl k where
  step : (b : Bool) → eqb (length p.0) 0 ≡ b → cond b (Some ([], p.1)) (with_lines (p.0 ∷ []) (lines_within n p.1)) ≡ Some y → IsHead text y.0 y.1 × (length y.0 < suc n)
  step true empty h =
      let parts = line_parts text p.0 p.1 e in
      let nothing : p.0 ≡ [] = nil_from_length p.0 (eqb-true _ _ empty) in
      let whole : text ≡ 13 ∷ 10 ∷ p.1 = parts.0 ∙ ap (λ (l : List ℕ). l ++ 13 ∷ 10 ∷ p.1) nothing in
      subst (λ (x : Lines). IsHead text x.0 x.1 × (length x.0 < suc n)) (read_is (made [] p.1) y h) (record { whole = whole; each = refl }, omega arith)
  step false some h =
      let parts = line_parts text p.0 p.1 e in
      let x = with_is p.0 (lines_within n p.1) y h in
      let m = more p.1 x.0 x.1 in
      let whole : text ≡ lines_text (p.0 ∷ x.0.0) ++ (13 ∷ 10 ∷ x.0.1) =
      parts.0 ∙ ap (λ (r : List ℕ). p.0 ++ 13 ∷ 10 ∷ r) m.0.whole ∙ line_joined p.0 (lines_text x.0.0) (13 ∷ 10 ∷ x.0.1) in
      let line : is_line p.0 ≡ true = and_from (not (eqb (length p.0) 0)) (is_clean p.0) (ap not some) parts.1 in
      subst (λ (z : Lines). IsHead text z.0 z.1 × (length z.0 < suc n)) x.2 (record { whole = whole; each = and_from (is_line p.0) (list_all is_line x.0.0) line m.0.each }, omega (arith, m.1))

-- lines that are read within a limit are there, and fewer
pub lines_are : (limit : ℕ) (text : List ℕ) (y : Lines) → lines_within limit text ≡ Some y → IsHead text y.0 y.1 × (length y.0 < limit)
unfolding lines_within
lines_are zero text y h = absurd cc
lines_are (suc n) text y h = by_line n text y (line_of text) refl h (λ t x k. lines_are n t x k)
