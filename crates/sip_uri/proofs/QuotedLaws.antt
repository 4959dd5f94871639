-- A quoted text that is cut, and put together again.
use Rattle.std.proofs.Common.{◌≡◌, ℕ, ◌+◌, Bool, true, false, not, ◌&&◌, cond, eqb, List, [], ◌∷◌, ◌++◌, length, take, drop, Option, Some, None, refl, sym, ap, ◌∙◌, append_assoc, arith}
use Rattle.std.specs.Prelude.{option_map}
use Rattle.std.proofs.lemmas.Bool.{and_parts, eqb-true, true≢false}
use Rattle.std.proofs.lemmas.List.{take_at, drop_at, length-append}
use Rattle.text.proofs.CutLaws.{differs}
use Rattle.sip_uri.specs.Quoted.{plus, closing_quote, quoted, may_stand, fits_quotes}

-- a text up to a quotation mark at a place
record Closed (text : List ℕ) (at : ℕ) : Type 0 where
  inside : List ℕ
  rest : List ℕ
  whole : text ≡ inside ++ 34 ∷ rest
  len : length inside ≡ at

abbrev some : ℕ → Option ℕ
some n = Some n

place_is : (m n : ℕ) → some m ≡ some n → m ≡ n
place_is m n h = cc

plus_is : (o : Option ℕ) (n : ℕ) → plus 1 o ≡ Some n → (m : ℕ) × (o ≡ Some m) × (1 + m ≡ n)
plus_is None n h = absurd cc
plus_is (Some m) n h = (m, refl, place_is (1 + m) n h)

closed : (e : Bool) (t : List ℕ) (n : ℕ) → closing_quote e t ≡ Some n → Closed t n
closed e [] n h = absurd cc
closed e (b ∷ bs) n h = step (eqb b 34) (not e) (λ k. eqb-true b 34 k) h (λ m k. closed (not e && eqb b 92) bs m k) where
  later : plus 1 (closing_quote (not e && eqb b 92) bs) ≡ Some n → ((m : ℕ) → closing_quote (not e && eqb b 92) bs ≡ Some m → Closed bs m) → Closed (b ∷ bs) n
  later k more =
      let p = plus_is (closing_quote (not e && eqb b 92) bs) n k in
      let c = more p.0 p.1 in
      let len : length (b ∷ c.inside) ≡ n = omega (arith, c.len, p.2) in
      record { inside = b ∷ c.inside; rest = c.rest; whole = ap (λ (t : List ℕ). b ∷ t) c.whole; len = len }

  step : (x y : Bool) → (x ≡ true → b ≡ 34) → cond (x && y) (Some 0) (plus 1 (closing_quote (not e && eqb b 92) bs)) ≡ Some n → ((m : ℕ) → closing_quote (not e && eqb b 92) bs ≡ Some m → Closed bs m) → Closed (b ∷ bs) n
  step true true same k more = record { inside = []; rest = bs; whole = ap (λ (x : ℕ). x ∷ bs) (same refl); len = place_is 0 n k }
  step true false same k more = later k more
  step false y same k more = later k more

abbrev pair : List ℕ → List ℕ → List ℕ × List ℕ
pair x y = (x, y)

abbrev some_pair : List ℕ × List ℕ → Option (List ℕ × List ℕ)
some_pair q = Some q

pair_is : (p q : List ℕ × List ℕ) → some_pair p ≡ some_pair q → p ≡ q
pair_is p q h = cc

-- what was cut, put together
pub quoted_is : (t : List ℕ) (q : List ℕ × List ℕ) → quoted t ≡ Some q → t ≡ q.0 ++ 34 ∷ q.1
unfolding quoted
quoted_is t q h = step (closing_quote false t) (λ n k. closed false t n k) h where
  step : (o : Option ℕ) → ((n : ℕ) → o ≡ Some n → Closed t n) → option_map (λ n. (take n t, drop (n + 1) t)) o ≡ Some q → t ≡ q.0 ++ 34 ∷ q.1
  step None is k = absurd cc
  step (Some n) is k =
      let c = is n refl in
      let front : take n t ≡ c.inside = ap (take n) c.whole ∙ take_at c.inside (34 ∷ c.rest) n c.len in
      let regrouped : t ≡ (c.inside ++ 34 ∷ []) ++ c.rest = c.whole ∙ sym (append_assoc c.inside (34 ∷ []) c.rest) in
      let back : drop (n + 1) t ≡ c.rest = ap (drop (n + 1)) regrouped ∙ drop_at (c.inside ++ 34 ∷ []) c.rest (n + 1) (omega (arith, length-append c.inside (34 ∷ []), c.len)) in
      let same = pair_is (pair (take n t) (drop (n + 1) t)) q k in
      c.whole ∙ ap (λ (x : List ℕ). x ++ 34 ∷ c.rest) (sym front ∙ ap (λ (x : List ℕ × List ℕ). x.0) same) ∙ ap (λ (x : List ℕ). q.0 ++ 34 ∷ x) (sym back ∙ ap (λ (x : List ℕ × List ℕ). x.1) same)

no_mark : (e : Bool) (b : ℕ) → may_stand e b ≡ true → (eqb b 34 && not e) ≡ false
no_mark true b h = step (eqb b 34) where
  step : (x : Bool) → (x && false) ≡ false
  step true = refl
  step false = refl
no_mark false b h = let apart = differs (may_stand false) 34 b refl h in rw apart refl

closing_at : (e : Bool) (x rest : List ℕ) → fits_quotes e x ≡ true → closing_quote e (x ++ 34 ∷ rest) ≡ Some (length x)
closing_at true [] rest h = absurd (true≢false (sym h))
closing_at false [] rest h = refl
closing_at e (b ∷ bs) rest h =
    let parts = and_parts (may_stand e b) (fits_quotes (not e && eqb b 92) bs) h in
    let more : plus 1 (closing_quote (not e && eqb b 92) (bs ++ 34 ∷ rest)) ≡ plus 1 (Some (length bs)) = ap (plus 1) (closing_at (not e && eqb b 92) bs rest parts.1) in
    rw (no_mark e b parts.0) (more ∙ ap (λ (n : ℕ). Some n) (omega arith))

pub quoted_at : (x rest : List ℕ) → fits_quotes false x ≡ true → quoted (x ++ 34 ∷ rest) ≡ Some (x, rest)
unfolding quoted
quoted_at x rest h =
    let regrouped : x ++ 34 ∷ rest ≡ (x ++ 34 ∷ []) ++ rest = sym (append_assoc x (34 ∷ []) rest) in
    let back : drop (length x + 1) (x ++ 34 ∷ rest) ≡ rest = ap (drop (length x + 1)) regrouped ∙ drop_at (x ++ 34 ∷ []) rest (length x + 1) (omega (arith, length-append x (34 ∷ []))) in
    rw (closing_at false x rest h, take_at x (34 ∷ rest) (length x) refl, back) refl
