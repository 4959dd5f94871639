-- What a test of places in a list decides.
use Rattle.std.proofs.Common.{◌≡◌, ℕ, zero, suc, ◌+◌, ◌-◌, ◌<◌, ◌≤◌, Bool, ◌||◌, List, [], ◌∷◌, length, take, drop, Some, None, ◌⊎◌, inl, inr, refl, sym, ◌∙◌, ap, subst, arith}
use Rattle.std.specs.Prelude.{slice_get}
use Rattle.std.specs.Bool.{Decides}
use Rattle.std.specs.List.{list_any, range_with_len}
use Rattle.std.proofs.lemmas.Bool.{cases_eq}
use Rattle.std.proofs.lemmas.Bool.Decides.{Decides-or, Decides-like}

-- an element is at its place
pub place_within : {X : Type 0} (t : List X) (i : ℕ) (x : X) → slice_get t i ≡ Some x → i < length t
place_within [] i x e = absurd (cc)
place_within (y ∷ t) zero x e = omega arith
place_within (y ∷ t) (suc i) x e = let h : i < length t = place_within t i x e in omega arith

-- some element passes the test
abbrev pub SomePlace : {X : Type 0} → List X → (X → Type 0) → Type 0
SomePlace {X} t Q = (i : ℕ) × (x : X) × (slice_get t i ≡ Some x) × Q x

pub decides_some : {X : Type 0} (q : X → Bool) (Q : X → Type 0) → ((x : X) → Decides (q x) (Q x)) → (t : List X) → Decides (list_any q t) (SomePlace t Q)
decides_some q Q each [] = (λ h. absurd (cc), λ h. absurd (let e : None ≡ Some h.1 = h.2 in cc))
decides_some {X} q Q each (x ∷ t) =
    Decides-like (q x || list_any q t) to (λ h. from h.0 h.1 h.2 h.3) (Decides-or (q x) (list_any q t) (each x) (decides_some q Q each t))
  where
    to : Q x ⊎ SomePlace t Q → SomePlace (x ∷ t) Q
    to h = elim h [ inl a ↦ (0, x, refl, a) | inr a ↦ (suc a.0, a.1, a.2, a.3) ]

    from : (i : ℕ) (y : X) → slice_get (x ∷ t) i ≡ Some y → Q y → Q x ⊎ SomePlace t Q
    from zero y e h = inl (let same : y ≡ x = cc in subst Q same h)
    from (suc i) y e h = inr (i, y, e, h)

-- ---- before a place

pub taken_place : {X : Type 0} (j : ℕ) (t : List X) (i : ℕ) (x : X) → slice_get (take j t) i ≡ Some x → (i < j) × (slice_get t i ≡ Some x)
taken_place zero t i x e = absurd (cc)
taken_place (suc j) [] i x e = absurd (cc)
taken_place (suc j) (y ∷ t) zero x e = (omega arith, e)
taken_place (suc j) (y ∷ t) (suc i) x e = let h = taken_place j t i x e in (omega (arith, h.0), h.1)

pub place_taken : {X : Type 0} (j : ℕ) (t : List X) (i : ℕ) (x : X) → i < j → slice_get t i ≡ Some x → slice_get (take j t) i ≡ Some x
place_taken zero t i x h e = absurd (omega arith)
place_taken (suc j) [] i x h e = absurd (cc)
place_taken (suc j) (y ∷ t) zero x h e = e
place_taken (suc j) (y ∷ t) (suc i) x h e = let h' : i < j = omega arith in place_taken j t i x h' e

abbrev pub SomeBefore : {X : Type 0} → List X → ℕ → (X → Type 0) → Type 0
SomeBefore {X} t j Q = (i : ℕ) × (x : X) × (i < j) × (slice_get t i ≡ Some x) × Q x

pub decides_before : {X : Type 0} (q : X → Bool) (Q : X → Type 0) → ((x : X) → Decides (q x) (Q x)) → (j : ℕ) (t : List X) → Decides (list_any q (take j t)) (SomeBefore t j Q)
decides_before q Q each j t =
    Decides-like (list_any q (take j t))
    (λ h. (let p = taken_place j t h.0 h.1 h.2 in (h.0, h.1, p.0, p.1, h.3)))
    (λ h. (h.0, h.1, place_taken j t h.0 h.1 h.2 h.3, h.4))
    (decides_some q Q each (take j t))

-- ---- from a place on

pub dropped_place : {X : Type 0} (n : ℕ) (t : List X) (i : ℕ) → slice_get (drop n t) i ≡ slice_get t (n + i)
dropped_place zero t i = let e : 0 + i ≡ i = omega arith in rw e refl
dropped_place (suc n) [] i = refl
dropped_place (suc n) (x ∷ t) i = let e : suc n + i ≡ suc (n + i) = omega arith in rw e (dropped_place n t i)

abbrev pub SomeFrom : {X : Type 0} → List X → ℕ → (X → Type 0) → Type 0
SomeFrom {X} t n Q = (i : ℕ) × (x : X) × (n ≤ i) × (slice_get t i ≡ Some x) × Q x

pub decides_from : {X : Type 0} (q : X → Bool) (Q : X → Type 0) → ((x : X) → Decides (q x) (Q x)) → (n : ℕ) (t : List X) → Decides (list_any q (drop n t)) (SomeFrom t n Q)
decides_from q Q each n t =
    Decides-like (list_any q (drop n t))
    (λ h. (n + h.0, h.1, omega arith, sym (dropped_place n t h.0) ∙ h.2, h.3))
    (λ h. (h.0 - n, h.1, (let e : n + (h.0 - n) ≡ h.0 = omega (arith, h.2) in dropped_place n t (h.0 - n) ∙ ap (λ k. slice_get t k) e ∙ h.3), h.4))
    (decides_some q Q each (drop n t))

-- ---- numbers below a number

pub decides_range : (q : ℕ → Bool) (Q : ℕ → Type 0) → ((k : ℕ) → Decides (q k) (Q k)) → (a n : ℕ) → Decides (list_any q (range_with_len a n)) ((k : ℕ) × (a ≤ k) × (k < a + n) × Q k)
decides_range q Q each a zero = (λ h. absurd (cc), λ h. absurd (omega (arith, h.1, h.2)))
decides_range q Q each a (suc n) =
    Decides-like (q a || list_any q (range_with_len (a + 1) n)) to (λ h. from h.0 h.1 h.2 h.3) (Decides-or (q a) (list_any q (range_with_len (a + 1) n)) (each a) (decides_range q Q each (a + 1) n))
  where
    to : Q a ⊎ ((k : ℕ) × (a + 1 ≤ k) × (k < a + 1 + n) × Q k) → (k : ℕ) × (a ≤ k) × (k < a + suc n) × Q k
    to h = elim h [ inl b ↦ (a, omega arith, omega arith, b) | inr b ↦ (b.0, omega (arith, b.1), omega (arith, b.2), b.3) ]

    from : (k : ℕ) → a ≤ k → k < a + suc n → Q k → Q a ⊎ ((k : ℕ) × (a + 1 ≤ k) × (k < a + 1 + n) × Q k)
    from k l m h = elim (cases_eq k a) [
      | inl e ↦ inl (subst Q e h)
      | inr d ↦ inr (k, omega (arith, d), omega arith, h)
    ]
