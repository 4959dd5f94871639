-- Raw text that is continued over lines.
use Rattle.std.proofs.Common.{◌≡◌, ℕ, Bool, true, false, not, ◌&&◌, cond, eqb, List, [], ◌∷◌, ◌++◌, map, drop, Some, refl, sym, ap, ◌∙◌, append_assoc}
use Rattle.std.proofs.lemmas.Bool.{eqb-true, eqb-false, ne_eqb, and_parts}
use Rattle.text.specs.Trim.{trimmed}
use Rattle.header_fields.specs.Glue.{glue, unfolded}
use Rattle.header_fields.specs.Lines.{begins_line_end, before_line_end, after_line_end, is_text_byte, is_clean}
use Rattle.header_fields.specs.Folded.{in_front, behind_first, raw_lines, lines_in, unfolded_text}

-- ---- glue

pub glue_nothing : (t : List ℕ) → glue t [] ≡ t
glue_nothing [] = refl
glue_nothing (x ∷ t) = refl

pub glue_assoc : (a b c : List ℕ) → glue (glue a b) c ≡ glue a (glue b c)
glue_assoc [] b c = refl
glue_assoc (x ∷ a) [] c = refl
glue_assoc (x ∷ a) (y ∷ b) [] = refl
glue_assoc (x ∷ a) (y ∷ b) (z ∷ c) = append_assoc (x ∷ a) (32 ∷ y ∷ b) (32 ∷ z ∷ c)

pub unfolded_more : (ps : List (List ℕ)) (p : List ℕ) → unfolded (ps ++ p ∷ []) ≡ glue (unfolded ps) p
unfolded_more [] p = glue_nothing p
unfolded_more (q ∷ ps) p = ap (glue q) (unfolded_more ps p) ∙ sym (glue_assoc q (unfolded ps) p)

-- ---- lines of a raw text

some_lines : (text : List ℕ) → (first : List ℕ) × (rest : List (List ℕ)) × (raw_lines text ≡ first ∷ rest)
some_lines [] = ([], [], refl)
some_lines (b ∷ bs) = step (begins_line_end (b ∷ bs)) (some_lines bs) where
  step : (e : Bool) → ((first : List ℕ) × (rest : List (List ℕ)) × (raw_lines bs ≡ first ∷ rest))
      → (first : List ℕ) × (rest : List (List ℕ)) × (cond e ([] ∷ behind_first (raw_lines bs)) (in_front b (raw_lines bs)) ≡ first ∷ rest)
  step true s = ([], behind_first (raw_lines bs), refl)
  step false s = (b ∷ s.0, s.1, rw s.2 refl)

behind_front : (b : ℕ) (ls : List (List ℕ)) → behind_first (in_front b ls) ≡ ls
behind_front b [] = refl
behind_front b (l ∷ ls) = refl

behind_more : (ls : List (List ℕ)) (first : List ℕ) (rest : List (List ℕ)) (l : List ℕ) → ls ≡ first ∷ rest → behind_first (ls ++ l ∷ []) ≡ behind_first ls ++ l ∷ []
behind_more ls first rest l e = rw e refl

front_more : (b : ℕ) (ls : List (List ℕ)) (first : List ℕ) (rest : List (List ℕ)) (l : List ℕ) → ls ≡ first ∷ rest → in_front b (ls ++ l ∷ []) ≡ in_front b ls ++ l ∷ []
front_more b ls first rest l e = rw e refl

-- a first line, and those after it
ends_at : (b : ℕ) (bs : List ℕ) → begins_line_end (b ∷ bs) ≡ true → bs ≡ 10 ∷ drop 1 bs
ends_at b [] h = absurd (none (eqb 13 b) h) where
  none : (e : Bool) → (e && false) ≡ true → ⊥
  none true k = cc
  none false k = cc
ends_at b (c ∷ cs) h =
    let outer = and_parts (eqb 13 b) (eqb 10 c && true) h in
    let inner = and_parts (eqb 10 c) true outer.1 in
    ap (λ (x : ℕ). x ∷ cs) (sym (eqb-true 10 c inner.0))

lf_first : (cs : List ℕ) → raw_lines (10 ∷ cs) ≡ in_front 10 (raw_lines cs)
lf_first cs = refl

pub first_and_rest : (text : List ℕ) → raw_lines text ≡ before_line_end text ∷ lines_in (after_line_end text)
first_and_rest [] = refl
first_and_rest (b ∷ bs) = step (begins_line_end (b ∷ bs)) refl (first_and_rest bs) where
  step : (e : Bool) → begins_line_end (b ∷ bs) ≡ e → raw_lines bs ≡ before_line_end bs ∷ lines_in (after_line_end bs)
      → cond e ([] ∷ behind_first (raw_lines bs)) (in_front b (raw_lines bs)) ≡ cond e [] (b ∷ before_line_end bs) ∷ lines_in (cond e (Some (drop 1 bs)) (after_line_end bs))
  step true ends more = ap (λ (ls : List (List ℕ)). [] ∷ ls) (ap (λ (t : List ℕ). behind_first (raw_lines t)) (ends_at b bs ends) ∙ ap behind_first (lf_first (drop 1 bs)) ∙ behind_front 10 (raw_lines (drop 1 bs)))
  step false ends more = ap (in_front b) more

-- a clean text is one line
pub one_line : (text : List ℕ) → is_clean text ≡ true → raw_lines text ≡ text ∷ []
one_line [] h = refl
one_line (b ∷ bs) h =
    let parts = and_parts (is_text_byte b) (is_clean bs) h in
    rw (no_end b bs parts.0) (ap (in_front b) (one_line bs parts.1)) where
      no_end : (b : ℕ) (bs : List ℕ) → is_text_byte b ≡ true → begins_line_end (b ∷ bs) ≡ false
      no_end b bs h = step (eqb b 13) (λ e. eqb-false b 13 e) h where
        step : (e : Bool) → (e ≡ false → b ≡ 13 → ⊥) → (not e && not (eqb b 10) && not (eqb b 0)) ≡ true → begins_line_end (b ∷ bs) ≡ false
        step true other k = absurd cc
        step false other k = rw (ne_eqb 13 b (λ same. other refl (sym same))) refl

no_end_before : (b : ℕ) (bs more : List ℕ) → begins_line_end (b ∷ (bs ++ 13 ∷ more)) ≡ begins_line_end (b ∷ bs)
no_end_before b [] more = refl
no_end_before b (c ∷ cs) more = refl

-- one more line
pub more_lines : (raw line : List ℕ) → is_clean line ≡ true → raw_lines (raw ++ 13 ∷ 10 ∷ line) ≡ raw_lines raw ++ line ∷ []
more_lines [] line h = ap (λ (ls : List (List ℕ)). [] ∷ behind_first (in_front 10 ls)) (one_line line h)
more_lines (b ∷ bs) line h = rw (no_end_before b bs (10 ∷ line), more_lines bs line h) (step (begins_line_end (b ∷ bs)) (some_lines bs)) where
  step : (e : Bool) → ((first : List ℕ) × (rest : List (List ℕ)) × (raw_lines bs ≡ first ∷ rest))
      → cond e ([] ∷ behind_first (raw_lines bs ++ line ∷ [])) (in_front b (raw_lines bs ++ line ∷ [])) ≡ cond e ([] ∷ behind_first (raw_lines bs)) (in_front b (raw_lines bs)) ++ line ∷ []
  step true s = ap (λ (ls : List (List ℕ)). [] ∷ ls) (behind_more (raw_lines bs) s.0 s.1 line s.2)
  step false s = front_more b (raw_lines bs) s.0 s.1 line s.2

map_more : (ls : List (List ℕ)) (l : List ℕ) → map trimmed (ls ++ l ∷ []) ≡ map trimmed ls ++ trimmed l ∷ []
map_more [] l = refl
map_more (k ∷ ls) l = ap (λ (ps : List (List ℕ)). trimmed k ∷ ps) (map_more ls l)

-- what a field says with this as its last line
pub one_more : (raw line : List ℕ) → is_clean line ≡ true → unfolded_text (raw ++ 13 ∷ 10 ∷ line) ≡ glue (unfolded_text raw) (trimmed line)
one_more raw line h =
    ap (λ (ls : List (List ℕ)). unfolded (map trimmed ls)) (more_lines raw line h) ∙ ap unfolded (map_more (raw_lines raw) line) ∙ unfolded_more (map trimmed (raw_lines raw)) (trimmed line)

pub only_line : (text : List ℕ) → is_clean text ≡ true → unfolded_text text ≡ trimmed text
only_line text h = ap (λ (ls : List (List ℕ)). unfolded (map trimmed ls)) (one_line text h) ∙ glue_nothing (trimmed text)
