-- Lines that are cut from a text, and put together again.
use Rattle.std.proofs.Common.{◌≡◌, ℕ, suc, ◌+◌, ◌-◌, ◌<◌, Bool, true, false, ◌&&◌, cond, eqb, List, [], ◌∷◌, ◌++◌, length, get_or, take, drop, Option, Some, None, refl, sym, ap, ◌∙◌, arith}
use Rattle.std.proofs.lemmas.Bool.{eqb-true, and_parts}
use Rattle.std.proofs.lemmas.List.{at_drop_more, take_rest}
use Rattle.header_fields.specs.Lines.{plus, begins_line_end, line_end, before_line_end, after_line_end}

-- ---- the first line

begins_is : (b : ℕ) (bs : List ℕ) → begins_line_end (b ∷ bs) ≡ true → b ∷ bs ≡ 13 ∷ 10 ∷ drop 1 bs
begins_is b [] h = absurd (false_is (eqb 13 b) h) where
  false_is : (e : Bool) → (e && false) ≡ true → ⊥
  false_is true k = cc
  false_is false k = cc
begins_is b (c ∷ cs) h =
    let outer = and_parts (eqb 13 b) (eqb 10 c && true) h in
    let inner = and_parts (eqb 10 c) true outer.1 in
    let first : 13 ≡ b = eqb-true 13 b outer.0 in
    let second : 10 ≡ c = eqb-true 10 c inner.0 in
    ap (λ (x : ℕ). x ∷ c ∷ cs) (sym first) ∙ ap (λ (x : ℕ). 13 ∷ x ∷ cs) (sym second)

-- what was cut, put together
pub first_line_joined : (text rest : List ℕ) → after_line_end text ≡ Some rest → text ≡ before_line_end text ++ 13 ∷ 10 ∷ rest
first_line_joined [] rest h = absurd cc
first_line_joined (b ∷ bs) rest h = step (begins_line_end (b ∷ bs)) refl h (λ k. first_line_joined bs rest k) where
  step : (e : Bool) → begins_line_end (b ∷ bs) ≡ e → cond e (Some (drop 1 bs)) (after_line_end bs) ≡ Some rest → (after_line_end bs ≡ Some rest → bs ≡ before_line_end bs ++ 13 ∷ 10 ∷ rest)
      → b ∷ bs ≡ cond e [] (b ∷ before_line_end bs) ++ 13 ∷ 10 ∷ rest
  step true ends k more = let same : drop 1 bs ≡ rest = cc in begins_is b bs ends ∙ ap (λ (r : List ℕ). 13 ∷ 10 ∷ r) same
  step false ends k more = ap (λ (t : List ℕ). b ∷ t) (more k)

-- the place of the end, and what the line and the rest are there
plus_some : (o : Option ℕ) (at : ℕ) → plus 1 o ≡ Some at → (n : ℕ) × (o ≡ Some n) × (at ≡ suc n)
plus_some None at h = absurd cc
plus_some (Some n) at h = (n, refl, let same : 1 + n ≡ at = cc in omega arith)

pub line_at : (text : List ℕ) (at : ℕ) → line_end text ≡ Some at → take at text ≡ before_line_end text
line_at [] at h = absurd cc
line_at (b ∷ bs) at h = step (begins_line_end (b ∷ bs)) h (λ n k. line_at bs n k) where
  step : (e : Bool) → cond e (Some 0) (plus 1 (line_end bs)) ≡ Some at → ((n : ℕ) → line_end bs ≡ Some n → take n bs ≡ before_line_end bs) → take at (b ∷ bs) ≡ cond e [] (b ∷ before_line_end bs)
  step true k more = let none : 0 ≡ at = cc in rw (← none) refl
  step false k more = let p = plus_some (line_end bs) at k in rw p.2 (ap (λ (t : List ℕ). b ∷ t) (more p.0 p.1))

drop_at_end : (text : List ℕ) (at : ℕ) → line_end text ≡ Some at → Some (drop (at + 2) text) ≡ after_line_end text
drop_at_end [] at h = absurd cc
drop_at_end (b ∷ bs) at h = step (begins_line_end (b ∷ bs)) h (λ n k. drop_at_end bs n k) where
  step : (e : Bool) → cond e (Some 0) (plus 1 (line_end bs)) ≡ Some at → ((n : ℕ) → line_end bs ≡ Some n → Some (drop (n + 2) bs) ≡ after_line_end bs) → Some (drop (at + 2) (b ∷ bs)) ≡ cond e (Some (drop 1 bs)) (after_line_end bs)
  step true k more = let none : at + 2 ≡ suc (suc 0) = (let z : 0 ≡ at = cc in omega arith) in rw none refl
  step false k more =
      let p = plus_some (line_end bs) at k in
      let next : at + 2 ≡ suc (p.0 + 2) = omega (arith, p.2) in
      rw next (more p.0 p.1)

pub rest_at : (text : List ℕ) (at : ℕ) → line_end text ≡ Some at → Some (take (length text - (at + 2)) (drop (at + 2) text)) ≡ after_line_end text
rest_at text at h = ap (λ (t : List ℕ). Some t) (take_rest text (at + 2)) ∙ drop_at_end text at h

pub no_end_line : (text : List ℕ) → line_end text ≡ None → text ≡ before_line_end text
no_end_line [] h = refl
no_end_line (b ∷ bs) h = step (begins_line_end (b ∷ bs)) h (λ k. no_end_line bs k) where
  none : (o : Option ℕ) → plus 1 o ≡ None → o ≡ None
  none None k = refl
  none (Some n) k = absurd cc

  step : (e : Bool) → cond e (Some 0) (plus 1 (line_end bs)) ≡ None → (line_end bs ≡ None → bs ≡ before_line_end bs) → b ∷ bs ≡ cond e [] (b ∷ before_line_end bs)
  step true k more = absurd cc
  step false k more = ap (λ (t : List ℕ). b ∷ t) (more (none (line_end bs) k))

pub no_end_rest : (text : List ℕ) → line_end text ≡ None → None ≡ after_line_end text
no_end_rest [] h = refl
no_end_rest (b ∷ bs) h = step (begins_line_end (b ∷ bs)) h (λ k. no_end_rest bs k) where
  none : (o : Option ℕ) → plus 1 o ≡ None → o ≡ None
  none None k = refl
  none (Some n) k = absurd cc

  step : (e : Bool) → cond e (Some 0) (plus 1 (line_end bs)) ≡ None → (line_end bs ≡ None → None ≡ after_line_end bs) → None ≡ cond e (Some (drop 1 bs)) (after_line_end bs)
  step true k more = absurd cc
  step false k more = more (none (line_end bs) k)

-- ---- the loop that looks for the end

plus-plus : (a : ℕ) (o : Option ℕ) → plus a (plus 1 o) ≡ plus (a + 1) o
plus-plus a None = refl
plus-plus a (Some n) = ap (λ (m : ℕ). Some m) (omega arith)

pub line_goes_on : (text : List ℕ) (at : ℕ) (o : Option ℕ) → at < length text → begins_line_end (drop at text) ≡ false → plus at (line_end (drop at text)) ≡ o → plus (at + 1) (line_end (drop (at + 1) text)) ≡ o
line_goes_on text at o lt not_here so_far =
    let front : begins_line_end (get_or text at 0 ∷ drop (at + 1) text) ≡ false = sym (at_drop_more begins_line_end text at 0 lt) ∙ not_here in
    let one : plus at (line_end (drop at text)) ≡ plus (at + 1) (line_end (drop (at + 1) text)) =
    ap (plus at) (at_drop_more line_end text at 0 lt) ∙ rw front (plus-plus at _) in
    sym one ∙ so_far
