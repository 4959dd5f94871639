-- Lemmas on what is done at one place.
use Rattle.std.proofs.Common.{◌≡◌, ◌==◌, ◌||◌, not, ◌+◌, ◌<◌, ◌≤◌, ◌∙◌, ℕ, true, false, cond, List, [], ◌∷◌, length, map, get_or, set, Some, None, inl, inr, refl, sym, ap, arith}
use Prim.Native.Nat.{zero, suc}
use Rattle.std.specs.List.{position, position_or_len}
use Rattle.std.proofs.lemmas.Bool.Decides.{nat_tests}
use Rattle.std.proofs.lemmas.Bool.{eqb-true, lt-ltb, le-ltb, ne_eqb, cases_lt}
use Rattle.index.specs.declared.index.Entry.{Entry}
use Rattle.port_pool.specs.Limits.{last_port}
use Rattle.port_pool.specs.declared.pair.Pair.{Pair}
use Rattle.port_pool.specs.declared.holdings.Holding.{Holding}
use Rattle.port_pool.specs.Holdings.{has_even, is_among, held_by, freed_at, holding_after_taking, taken, holding_after_release, released, PairsFrom}
use Rattle.port_pool.specs.Places.{no_holding, at_place, vacated}

-- ---- a change at a place

-- a write at a place
pub set_at : (f : Holding → Holding) (holdings : List Holding) (i : ℕ) (d : Holding) → set holdings i (f (get_or holdings i d)) ≡ at_place i f holdings
set_at f [] i d = refl
set_at f (s ∷ ss) zero d = refl
set_at f (s ∷ ss) (suc i) d = ap (λ rest. s ∷ rest) (set_at f ss i d)

-- the same holds for an element that was read there
pub written_at : (f : Holding → Holding) (holdings : List Holding) (i : ℕ) (s d : Holding) → i < length holdings → s ≡ get_or holdings i d → set holdings i (f s) ≡ at_place i f holdings
written_at f holdings i s d less is = ap (λ t. set holdings i (f t)) is ∙ set_at f holdings i d

-- a pair that is nobody's already
pub vacated_same : (s : Holding) → s.holder ≡ None → vacated s ≡ s
vacated_same s none = λ i. record { even = s.even; holder = sym none i; freed = s.freed }

pub length_at : (f : Holding → Holding) (holdings : List Holding) (i : ℕ) → length (at_place i f holdings) ≡ length holdings
length_at f [] i = refl
length_at f (s ∷ ss) zero = refl
length_at f (s ∷ ss) (suc i) = ap suc (length_at f ss i)

pub get_at : (f : Holding → Holding) (holdings : List Holding) (i : ℕ) (d : Holding) → i < length holdings → get_or (at_place i f holdings) i d ≡ f (get_or holdings i d)
get_at f [] i d less = absurd (omega arith)
get_at f (s ∷ ss) zero d less = refl
get_at f (s ∷ ss) (suc i) d less = get_at f ss i d (omega arith)

pub same_at : (f : Holding → Holding) (holdings : List Holding) (i : ℕ) (d : Holding) → f (get_or holdings i d) ≡ get_or holdings i d → at_place i f holdings ≡ holdings
same_at f [] i d same = refl
same_at f (s ∷ ss) zero d same = ap (λ t. t ∷ ss) same
same_at f (s ∷ ss) (suc i) d same = ap (λ rest. s ∷ rest) (same_at f ss i d same)

-- two changes at a place, one after the other
pub twice_at : (f g h : Holding → Holding) → ((s : Holding) → f (g s) ≡ h s) → (holdings : List Holding) (i : ℕ) → at_place i f (at_place i g holdings) ≡ at_place i h holdings
twice_at f g h both [] i = refl
twice_at f g h both (s ∷ ss) zero = ap (λ t. t ∷ ss) (both s)
twice_at f g h both (s ∷ ss) (suc i) = ap (λ rest. s ∷ rest) (twice_at f g h both ss i)

pub PairsFrom-at : (f : Holding → Holding) → ((s : Holding) → (f s).even ≡ s.even) → (n : ℕ) (holdings : List Holding) (i : ℕ) → PairsFrom n holdings → PairsFrom n (at_place i f holdings)
PairsFrom-at f same n [] i h = tt
PairsFrom-at f same n (s ∷ ss) zero h = rw (same s) h
PairsFrom-at f same n (s ∷ ss) (suc i) h = (h.0, h.1, h.2, PairsFrom-at f same (s.even + 2) ss i h.3)

-- ---- the pair with an even port

module _ (e : ℕ) (f g : Holding → Holding) (hit : (s : Holding) → (s.even == e) ≡ true → g s ≡ f s) (miss : (s : Holding) → (s.even == e) ≡ false → g s ≡ s) where
  map_above : (n : ℕ) (holdings : List Holding) → e < n → PairsFrom n holdings → map g holdings ≡ holdings
  map_above n [] above h = refl
  map_above n (s ∷ ss) above h =
      let other : (s.even == e) ≡ false = ne_eqb s.even e (λ same. omega (arith, same, h.0)) in
      rw (miss s other, map_above (s.even + 2) ss (omega (arith, h.0)) h.3) refl

  map_first : (n i : ℕ) (holdings : List Holding) → PairsFrom n holdings → i ≡ position_or_len (has_even e) holdings → i < length holdings → map g holdings ≡ at_place i f holdings
  map_first n i [] h at less = absurd (omega arith)
  map_first n zero (s ∷ ss) h at less =
      elim (s.even == e) as (λ b. (s.even == e) ≡ b → 0 ≡ cond (not b) (1 + position_or_len (has_even e) ss) 0 → map g (s ∷ ss) ≡ f s ∷ ss) [
        | true ↦ λ is here. (let same : s.even ≡ e = eqb-true s.even e is in rw (hit s is, map_above (s.even + 2) ss (omega (arith, same)) h.3) refl)
        | false ↦ λ is here. absurd (omega (arith, here))
      ] refl at
  map_first n (suc i) (s ∷ ss) h at less =
      elim (s.even == e) as (λ b. (s.even == e) ≡ b → suc i ≡ cond (not b) (1 + position_or_len (has_even e) ss) 0 → map g (s ∷ ss) ≡ s ∷ at_place i f ss) [
        | true ↦ λ is here. absurd (omega (arith, here))
        | false ↦ λ is here. rw (miss s is, map_first (s.even + 2) i ss h.3 (omega (arith, here)) (omega (arith, less))) refl
      ] refl at

  map_missing : (holdings : List Holding) → length holdings ≤ position_or_len (has_even e) holdings → map g holdings ≡ holdings
  map_missing [] none = refl
  map_missing (s ∷ ss) none =
      elim (s.even == e) as (λ b. (s.even == e) ≡ b → suc (length ss) ≤ cond (not b) (1 + position_or_len (has_even e) ss) 0 → map g (s ∷ ss) ≡ s ∷ ss) [
        | true ↦ λ is none. absurd (omega (arith, none))
        | false ↦ λ is none. rw (miss s is, map_missing ss (omega (arith, none))) refl
      ] refl none

  -- what is done to the pair with this even port is done at its place
  pub map_at : (n i : ℕ) (holdings : List Holding) → PairsFrom n holdings → position (has_even e) holdings ≡ Some i → map g holdings ≡ at_place i f holdings
  map_at n i holdings h =
      let place = position_or_len (has_even e) holdings in
      elim (cases_lt place (length holdings)) [
        | inl less ↦ rw (lt-ltb place (length holdings) less) (λ is. let same : i ≡ place = cc in map_first n i holdings h same (omega (arith, same, less)))
        | inr most ↦ rw (le-ltb place (length holdings) most) (λ is. cc)
      ]

  pub map_none : (holdings : List Holding) → position (has_even e) holdings ≡ None → map g holdings ≡ holdings
  map_none holdings =
      let place = position_or_len (has_even e) holdings in
      elim (cases_lt place (length holdings)) [
        | inl less ↦ rw (lt-ltb place (length holdings) less) (λ is. cc)
        | inr most ↦ λ is. map_missing holdings most
      ]

flipped : (a b : ℕ) → (a == b) ≡ (b == a)
flipped a b = grind (arith, nat_tests)

taking_hit : (call : ℕ) (pair : Pair) (s : Holding) → (s.even == pair.even) ≡ true → holding_after_taking call (pair ∷ []) s ≡ held_by call s
taking_hit call pair s is = rw (flipped pair.even s.even, is) refl

taking_miss : (call : ℕ) (pair : Pair) (s : Holding) → (s.even == pair.even) ≡ false → holding_after_taking call (pair ∷ []) s ≡ s
taking_miss call pair s is = rw (flipped pair.even s.even, is) refl

pub taken_at : (call : ℕ) (pair : Pair) (n i : ℕ) (holdings : List Holding) → PairsFrom n holdings → position (has_even pair.even) holdings ≡ Some i
    → at_place i (held_by call) holdings ≡ taken call (pair ∷ []) holdings
taken_at call pair n i holdings h is = sym (map_at pair.even (held_by call) (holding_after_taking call (pair ∷ [])) (taking_hit call pair) (taking_miss call pair) n i holdings h is)

pub taken_none : (call : ℕ) (pair : Pair) (holdings : List Holding) → position (has_even pair.even) holdings ≡ None → holdings ≡ taken call (pair ∷ []) holdings
taken_none call pair holdings is = sym (map_none pair.even (held_by call) (holding_after_taking call (pair ∷ [])) (taking_hit call pair) (taking_miss call pair) holdings is)

release_hit : (pair : Pair) (now : ℕ) (s : Holding) → (s.even == pair.even) ≡ true → holding_after_release pair now s ≡ freed_at now s
release_hit pair now s is = rw is refl

release_miss : (pair : Pair) (now : ℕ) (s : Holding) → (s.even == pair.even) ≡ false → holding_after_release pair now s ≡ s
release_miss pair now s is = rw is refl

pub released_at : (pair : Pair) (now n i : ℕ) (holdings : List Holding) → PairsFrom n holdings → position (has_even pair.even) holdings ≡ Some i
    → at_place i (freed_at now) holdings ≡ released pair now holdings
released_at pair now n i holdings h is = sym (map_at pair.even (freed_at now) (holding_after_release pair now) (release_hit pair now) (release_miss pair now) n i holdings h is)

pub released_none : (pair : Pair) (now : ℕ) (holdings : List Holding) → position (has_even pair.even) holdings ≡ None → holdings ≡ released pair now holdings
released_none pair now holdings is = sym (map_none pair.even (freed_at now) (holding_after_release pair now) (release_hit pair now) (release_miss pair now) holdings is)

-- ---- pairs that are taken one by one

taking_more : (call : ℕ) (p : Pair) (ps : List Pair) (s : Holding) → holding_after_taking call ps (holding_after_taking call (p ∷ []) s) ≡ holding_after_taking call (p ∷ ps) s
taking_more call p ps s =
    elim (p.even == s.even) as (λ b. holding_after_taking call ps (cond (b || false) (held_by call s) s) ≡ cond (b || is_among ps s.even) (held_by call s) s) [
      | true ↦ elim (is_among ps s.even) as (λ c. cond c (held_by call s) (held_by call s) ≡ held_by call s) [
        | true ↦ refl
        | false ↦ refl
      ]
      | false ↦ refl
    ]

pub taken_more : (call : ℕ) (p : Pair) (ps : List Pair) (holdings : List Holding) → taken call ps (taken call (p ∷ []) holdings) ≡ taken call (p ∷ ps) holdings
taken_more call p ps [] = refl
taken_more call p ps (s ∷ ss) = λ i. taking_more call p ps s i ∷ taken_more call p ps ss i

pub taken_all : (call : ℕ) (holdings : List Holding) → taken call [] holdings ≡ holdings
taken_all call [] = refl
taken_all call (s ∷ ss) = ap (λ rest. s ∷ rest) (taken_all call ss)

-- ---- ports at a place

pub odd_at : (n : ℕ) (holdings : List Holding) (i : ℕ) (d : Holding) → PairsFrom n holdings → i < length holdings → (get_or holdings i d).even + 1 ≤ last_port
odd_at n [] i d h less = absurd (omega arith)
odd_at n (s ∷ ss) zero d h less = h.2
odd_at n (s ∷ ss) (suc i) d h less = odd_at (s.even + 2) ss i d h.3 (omega arith)

abbrev pub ports_of_place : List Holding → ℕ → List ℕ
ports_of_place holdings place = (get_or holdings place no_holding).even ∷ ((get_or holdings place no_holding).even + 1) ∷ []

-- the ports of the pair at the place of an entry
abbrev pub ports_at : List Holding → Entry → List ℕ
ports_at holdings entry = ports_of_place holdings entry.number
