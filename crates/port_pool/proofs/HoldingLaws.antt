-- Lemmas on pairs that change hands.
use Rattle.std.proofs.Common.{◌≡◌, ◌==◌, ◌||◌, ◌&&◌, not, ◌+◌, ◌*◌, ◌%◌, ◌<◌, ◌≤◌, ◌∙◌, ℕ, Bool, true, false, cond, List, [], ◌∷◌, All, map, filter, find, take, get_or, nat_lt, Option, Some, None, is_some, is_none, option_and_then, refl, sym, ap, subst, lt-ltb, arith}
use Prim.Native.Nat.{zero, suc}
use Rattle.std.specs.List.{range_with_len}
use Rattle.std.proofs.lemmas.Bool.Decides.{nat_tests}
use Rattle.std.proofs.lemmas.Bool.{eqb-true, ltb-true}
use Rattle.std.proofs.lemmas.List.Elements.{All-cons, All-nil}
use Rattle.std.proofs.lemmas.List.Kept.{AllPairs-cons}
use Rattle.port_pool.specs.Limits.{min_port, last_port, rest_time}
use Rattle.port_pool.specs.declared.pair.Pair.{Pair}
use Rattle.port_pool.specs.declared.holdings.Holding.{Holding}
use Rattle.port_pool.specs.Holdings.{unheld, is_call, holds, is_free, pair_of, free_pairs, has_even, holder_of, is_among, is_resting, held_by, freed_at, holding_after_taking, holding_after_release, holding_after_drop, taken, released, dropped, LeadsPair, AreRising, PairsFrom, PairsRise, is_other, holding_after_freeing_others, others_freed}

-- ---- the ports of the pairs

pub PairsFrom-unheld : (first n k least : ℕ) → first % 2 ≡ 0 → least ≤ first + 2 * k → first + 2 * (k + n) ≤ last_port + 1
    → PairsFrom least (map (unheld first) (range_with_len k n))
PairsFrom-unheld first zero k least even from upto = tt
PairsFrom-unheld first (suc n) k least even from upto =
    (from, (omega arith), (omega arith), PairsFrom-unheld first n (k + 1) (first + 2 * k + 2) even (omega arith) (omega arith))

pub PairsFrom-weaker : (m n : ℕ) (holdings : List Holding) → m ≤ n → PairsFrom n holdings → PairsFrom m holdings
PairsFrom-weaker m n [] le h = tt
PairsFrom-weaker m n (s ∷ ss) le h = (omega arith, h.1, h.2, h.3)

all_above : (m n : ℕ) (holdings : List Holding) → m < n → PairsFrom n holdings → All (λ t. m < t.even) holdings
all_above m n [] below h = All-nil (λ t. m < t.even)
all_above m n (s ∷ ss) below h = All-cons (λ t. m < t.even) s ss (omega arith) (all_above m (s.even + 2) ss (omega arith) h.3)

pub PairsRise-pairs : (n : ℕ) (holdings : List Holding) → PairsFrom n holdings → PairsRise holdings
PairsRise-pairs n [] h = λ i j d below within. absurd (omega arith)
PairsRise-pairs n (s ∷ ss) h =
    AllPairs-cons (λ s t. s.even + 1 < t.even) s ss (all_above (s.even + 1) (s.even + 2) ss (omega arith) h.3) (PairsRise-pairs (s.even + 2) ss h.3)

-- ports stay the same, no matter who holds them
pub PairsFrom-map : (f : Holding → Holding) → ((s : Holding) → (f s).even ≡ s.even) → (n : ℕ) (holdings : List Holding) → PairsFrom n holdings → PairsFrom n (map f holdings)
PairsFrom-map f same n [] h = tt
PairsFrom-map f same n (s ∷ ss) h = rw (same s) (h.0, h.1, h.2, PairsFrom-map f same (s.even + 2) ss h.3)

chosen_even : (b : Bool) (t s : Holding) → t.even ≡ s.even → (cond b t s).even ≡ s.even
chosen_even true t s same = same
chosen_even false t s same = refl

taken_even : (call : ℕ) (pairs : List Pair) (s : Holding) → (holding_after_taking call pairs s).even ≡ s.even
taken_even call pairs s = chosen_even (is_among pairs s.even) (held_by call s) s refl

released_even : (pair : Pair) (now : ℕ) (s : Holding) → (holding_after_release pair now s).even ≡ s.even
released_even pair now s = chosen_even (s.even == pair.even) (freed_at now s) s refl

dropped_even : (call now : ℕ) (s : Holding) → (holding_after_drop call now s).even ≡ s.even
dropped_even call now s = chosen_even (holds call s) (freed_at now s) s refl

others_even : (call : ℕ) (kept : List Pair) (now : ℕ) (s : Holding) → (holding_after_freeing_others call kept now s).even ≡ s.even
others_even call kept now s = chosen_even (is_other call kept s) (freed_at now s) s refl

pub PairsFrom-others : (call : ℕ) (kept : List Pair) (now n : ℕ) (holdings : List Holding) → PairsFrom n holdings → PairsFrom n (others_freed call kept now holdings)
PairsFrom-others call kept now n holdings h = PairsFrom-map (holding_after_freeing_others call kept now) (others_even call kept now) n holdings h

pub PairsFrom-taken : (call : ℕ) (pairs : List Pair) (n : ℕ) (holdings : List Holding) → PairsFrom n holdings → PairsFrom n (taken call pairs holdings)
PairsFrom-taken call pairs n holdings h = PairsFrom-map (holding_after_taking call pairs) (taken_even call pairs) n holdings h

pub PairsFrom-released : (pair : Pair) (now n : ℕ) (holdings : List Holding) → PairsFrom n holdings → PairsFrom n (released pair now holdings)
PairsFrom-released pair now n holdings h = PairsFrom-map (holding_after_release pair now) (released_even pair now) n holdings h

pub PairsFrom-dropped : (call now n : ℕ) (holdings : List Holding) → PairsFrom n holdings → PairsFrom n (dropped call now holdings)
PairsFrom-dropped call now n holdings h = PairsFrom-map (holding_after_drop call now) (dropped_even call now) n holdings h

-- ---- who holds a pair, after a change

-- g of the even port and the holder says who holds each holding after f
holder_of-map : (f : Holding → Holding) (g : ℕ → Option ℕ → Option ℕ) → ((s : Holding) → (f s).even ≡ s.even) → ((s : Holding) → (f s).holder ≡ g s.even s.holder)
    → (holdings : List Holding) (e : ℕ) → (is_some (find (has_even e) holdings) ≡ false → g e None ≡ None)
    → holder_of (map f holdings) e ≡ g e (holder_of holdings e)
holder_of-map f g same gives [] e none = sym (none refl)
holder_of-map f g same gives (s ∷ ss) e none =
    ap (λ m. option_and_then (λ (t : Holding). t.holder) (cond (m == e) (Some (f s)) (find (has_even e) (map f ss)))) (same s)
    ∙ (elim (s.even == e) as (λ b. (s.even == e) ≡ b → (is_some (cond b (Some s) (find (has_even e) ss)) ≡ false → g e None ≡ None)
    → option_and_then (λ (t : Holding). t.holder) (cond b (Some (f s)) (find (has_even e) (map f ss)))
    ≡ g e (option_and_then (λ (t : Holding). t.holder) (cond b (Some s) (find (has_even e) ss)))) [
      | true ↦ λ is none. gives s ∙ ap (λ n. g n s.holder) (eqb-true s.even e is)
      | false ↦ λ is none. holder_of-map f g same gives ss e none
    ]) refl none

chosen_holder : (b : Bool) (t s : Holding) → (cond b t s).holder ≡ cond b t.holder s.holder
chosen_holder true t s = refl
chosen_holder false t s = refl

none_either : (b : Bool) → cond {A = Option ℕ} b None None ≡ None
none_either true = refl
none_either false = refl

not_given : (b found : Bool) (call : ℕ) → (b ≡ true → found ≡ true) → found ≡ false → cond b (Some call) None ≡ None
not_given true found call h none = cc (h refl)
not_given false found call h none = refl

pub holder_of-released : (pair : Pair) (now : ℕ) (holdings : List Holding) (e : ℕ) → holder_of (released pair now holdings) e ≡ cond (e == pair.even) None (holder_of holdings e)
holder_of-released pair now holdings e =
    holder_of-map (holding_after_release pair now) (λ n h. cond (n == pair.even) None h) (released_even pair now) (λ s. chosen_holder (s.even == pair.even) (freed_at now s) s) holdings e (λ none. none_either (e == pair.even))

pub holder_of-dropped : (call now : ℕ) (holdings : List Holding) (e : ℕ) → holder_of (dropped call now holdings) e ≡ cond (is_call call (holder_of holdings e)) None (holder_of holdings e)
holder_of-dropped call now holdings e =
    holder_of-map (holding_after_drop call now) (λ n h. cond (is_call call h) None h) (dropped_even call now) (λ s. chosen_holder (holds call s) (freed_at now s) s) holdings e (λ none. refl)

pub holder_of-others : (call : ℕ) (kept : List Pair) (now : ℕ) (holdings : List Holding) (e : ℕ)
    → holder_of (others_freed call kept now holdings) e ≡ cond (is_call call (holder_of holdings e) && not (is_among kept e)) None (holder_of holdings e)
holder_of-others call kept now holdings e =
    holder_of-map (holding_after_freeing_others call kept now) (λ n h. cond (is_call call h && not (is_among kept n)) None h) (others_even call kept now)
    (λ s. chosen_holder (is_other call kept s) (freed_at now s) s) holdings e (λ none. refl)

holder_of-taken : (call : ℕ) (pairs : List Pair) (holdings : List Holding) (e : ℕ) → (is_among pairs e ≡ true → is_some (find (has_even e) holdings) ≡ true)
    → holder_of (taken call pairs holdings) e ≡ cond (is_among pairs e) (Some call) (holder_of holdings e)
holder_of-taken call pairs holdings e stands =
    holder_of-map (holding_after_taking call pairs) (λ n h. cond (is_among pairs n) (Some call) h) (taken_even call pairs) (λ s. chosen_holder (is_among pairs s.even) (held_by call s) s) holdings e
    (λ none. not_given (is_among pairs e) (is_some (find (has_even e) holdings)) call stands none)

-- ---- the pairs that are free

free_stands : (now : ℕ) (holdings : List Holding) (e : ℕ) → is_among (free_pairs now holdings) e ≡ true → is_some (find (has_even e) holdings) ≡ true
free_stands now [] e = λ h. h
free_stands now (s ∷ ss) e =
    elim (is_free now s) as (λ b. is_among (map pair_of (cond b (s ∷ filter (is_free now) ss) (filter (is_free now) ss))) e ≡ true
    → is_some (cond (s.even == e) (Some s) (find (has_even e) ss)) ≡ true) [
      | true ↦ elim (s.even == e) as (λ d. (d || is_among (free_pairs now ss) e) ≡ true → is_some (cond d (Some s) (find (has_even e) ss)) ≡ true) [
        | true ↦ λ h. refl
        | false ↦ free_stands now ss e
      ]
      | false ↦ elim (s.even == e) as (λ d. is_among (free_pairs now ss) e ≡ true → is_some (cond d (Some s) (find (has_even e) ss)) ≡ true) [
        | true ↦ λ h. refl
        | false ↦ free_stands now ss e
      ]
    ]

pub differ : (a b : ℕ) → b < a → (a == b) ≡ false
differ a b below = grind (arith, nat_tests)

none_free : (now n : ℕ) (holdings : List Holding) (e : ℕ) → PairsFrom n holdings → e < n → is_among (free_pairs now holdings) e ≡ false
none_free now n [] e h below = refl
none_free now n (s ∷ ss) e h below =
    let rest : is_among (free_pairs now ss) e ≡ false = none_free now (s.even + 2) ss e h.3 (omega arith) in
    elim (is_free now s) as (λ b. is_among (map pair_of (cond b (s ∷ filter (is_free now) ss) (filter (is_free now) ss))) e ≡ false) [
      | true ↦ ap (λ d. d || is_among (free_pairs now ss) e) (differ s.even e (omega arith)) ∙ rest
      | false ↦ rest
    ]

none_of : (o : Option ℕ) (b : Bool) → (is_none o && b) ≡ true → o ≡ None
none_of None b h = refl
none_of (Some x) b h = cc h

free_unheld : (now n : ℕ) (holdings : List Holding) (e : ℕ) → PairsFrom n holdings → is_among (free_pairs now holdings) e ≡ true → holder_of holdings e ≡ None
free_unheld now n [] e h = λ among. refl
free_unheld now n (s ∷ ss) e h =
    (elim (is_free now s) as (λ b. is_free now s ≡ b → is_among (map pair_of (cond b (s ∷ filter (is_free now) ss) (filter (is_free now) ss))) e ≡ true
    → option_and_then (λ (t : Holding). t.holder) (cond (s.even == e) (Some s) (find (has_even e) ss)) ≡ None) [
      | true ↦ λ is. elim (s.even == e) as (λ d. (d || is_among (free_pairs now ss) e) ≡ true
          → option_and_then (λ (t : Holding). t.holder) (cond d (Some s) (find (has_even e) ss)) ≡ None) [
            | true ↦ λ among. none_of s.holder (not (is_resting now s)) is
            | false ↦ free_unheld now (s.even + 2) ss e h.3
          ]
      | false ↦ λ is. (elim (s.even == e) as (λ d. (s.even == e) ≡ d → is_among (free_pairs now ss) e ≡ true
          → option_and_then (λ (t : Holding). t.holder) (cond d (Some s) (find (has_even e) ss)) ≡ None) [
            | true ↦ λ same among. let at : s.even ≡ e = eqb-true s.even e same in
                let gone : is_among (free_pairs now ss) e ≡ false = none_free now (s.even + 2) ss e h.3 (omega arith) in cc
            | false ↦ λ other. free_unheld now (s.even + 2) ss e h.3
          ]) refl
    ]) refl

among_take : (n : ℕ) (pairs : List Pair) (e : ℕ) → is_among (take n pairs) e ≡ true → is_among pairs e ≡ true
among_take zero [] e = λ h. h
among_take zero (p ∷ ps) e = λ h. cc h
among_take (suc n) [] e = λ h. h
among_take (suc n) (p ∷ ps) e =
    elim (p.even == e) as (λ d. (d || is_among (take n ps) e) ≡ true → (d || is_among ps e) ≡ true) [
      | true ↦ λ h. refl
      | false ↦ among_take n ps e
    ]

among_later : (p : Pair) (ps : List Pair) (e : ℕ) → is_among ps e ≡ true → is_among (p ∷ ps) e ≡ true
among_later p ps e h =
    elim (p.even == e) as (λ d. (d || is_among ps e) ≡ true) [
      | true ↦ refl
      | false ↦ h
    ]

pub same_even : (e : ℕ) → (e == e) ≡ true
same_even e = grind (arith, nat_tests)

among_own : (n : ℕ) (ps : List Pair) → All (λ p. is_among ps p.even ≡ true) (take n ps)
among_own zero [] = All-nil (λ p. is_among [] p.even ≡ true)
among_own zero (p ∷ ps) = All-nil (λ q. is_among (p ∷ ps) q.even ≡ true)
among_own (suc n) [] = All-nil (λ p. is_among [] p.even ≡ true)
among_own (suc n) (p ∷ ps) =
    All-cons (λ q. is_among (p ∷ ps) q.even ≡ true) p (take n ps) (ap (λ b. b || is_among ps p.even) (same_even p.even))
    (λ k d within. among_later p ps (get_or (take n ps) k d).even (among_own n ps k d within))

-- pairs that are given are free
pub free_given : (now n : ℕ) (holdings : List Holding) → All (λ p. is_among (free_pairs now holdings) p.even ≡ true) (take n (free_pairs now holdings))
free_given now n holdings = among_own n (free_pairs now holdings)

among_free : (now : ℕ) (holdings : List Holding) (pairs : List Pair) (e : ℕ) → All (λ p. is_among (free_pairs now holdings) p.even ≡ true) pairs → is_among pairs e ≡ true
    → is_among (free_pairs now holdings) e ≡ true
among_free now holdings [] e all = λ h. cc h
among_free now holdings (p ∷ ps) e all =
    (elim (p.even == e) as (λ d. (p.even == e) ≡ d → (d || is_among ps e) ≡ true → is_among (free_pairs now holdings) e ≡ true) [
      | true ↦ λ is h. let at : p.even ≡ e = eqb-true p.even e is in
          let first : is_among (free_pairs now holdings) p.even ≡ true = all 0 p (omega arith) in ap (is_among (free_pairs now holdings)) (sym at) ∙ first
      | false ↦ λ is h. among_free now holdings ps e (λ k d within. all (suc k) d (omega arith)) h
    ]) refl

-- pairs that were free are the call's, the others keep their holders
pub holder_of-held : (now call : ℕ) (pairs : List Pair) (holdings : List Holding) (e : ℕ) → All (λ p. is_among (free_pairs now holdings) p.even ≡ true) pairs
    → holder_of (taken call pairs holdings) e ≡ cond (is_among pairs e) (Some call) (holder_of holdings e)
holder_of-held now call pairs holdings e free = holder_of-taken call pairs holdings e (λ h. free_stands now holdings e (among_free now holdings pairs e free h))

-- a pair that is given was nobody's
pub given_unheld : (now n least : ℕ) (holdings : List Holding) (e : ℕ) → PairsFrom least holdings → is_among (take n (free_pairs now holdings)) e ≡ true → holder_of holdings e ≡ None
given_unheld now n least holdings e h among = free_unheld now least holdings e h (among_take n (free_pairs now holdings) e among)

-- ---- the lowest pairs

free_from : (now n : ℕ) (holdings : List Holding) (e : ℕ) → PairsFrom n holdings → is_among (free_pairs now holdings) e ≡ true → n ≤ e
free_from now n holdings e h among =
    (elim (nat_lt e n) as (λ b. nat_lt e n ≡ b → n ≤ e) [
      | true ↦ λ below. let gone : is_among (free_pairs now holdings) e ≡ false = none_free now n holdings e h (ltb-true e n below) in cc
      | false ↦ λ above. grind (arith, nat_tests)
    ]) refl

no_pairs : (n e : ℕ) → All (λ p. p.even < e) (take {A = Pair} n [])
no_pairs zero e = All-nil (λ p. p.even < e)
no_pairs (suc n) e = All-nil (λ p. p.even < e)

-- any other free pair is above the n lowest
pub lowest_below : (now n least : ℕ) (holdings : List Holding) (e : ℕ) → PairsFrom least holdings → is_among (free_pairs now holdings) e ≡ true
    → is_among (take n (free_pairs now holdings)) e ≡ false → All (λ p. p.even < e) (take n (free_pairs now holdings))
lowest_below now n least [] e h = λ among others. no_pairs n e
lowest_below now zero least (s ∷ ss) e h = λ among others. All-nil (λ p. p.even < e)
lowest_below now (suc n) least (s ∷ ss) e h =
    elim (is_free now s) as (λ b. is_among (map pair_of (cond b (s ∷ filter (is_free now) ss) (filter (is_free now) ss))) e ≡ true
    → is_among (take (suc n) (map pair_of (cond b (s ∷ filter (is_free now) ss) (filter (is_free now) ss)))) e ≡ false
    → All (λ p. p.even < e) (take (suc n) (map pair_of (cond b (s ∷ filter (is_free now) ss) (filter (is_free now) ss))))) [
      | true ↦ elim (s.even == e) as (λ d. (d || is_among (free_pairs now ss) e) ≡ true → (d || is_among (take n (free_pairs now ss)) e) ≡ false
          → All (λ p. p.even < e) (pair_of s ∷ take n (free_pairs now ss))) [
            | true ↦ λ among others. cc others
            | false ↦ λ among others.
                let from : s.even + 2 ≤ e = free_from now (s.even + 2) ss e h.3 among in
                All-cons (λ p. p.even < e) (pair_of s) (take n (free_pairs now ss)) (omega arith) (lowest_below now n (s.even + 2) ss e h.3 among others)
          ]
      | false ↦ lowest_below now (suc n) (s.even + 2) ss e h.3
    ]

-- ---- the ports of pairs that are given

none_above : (P : ℕ → Type 0) (n : ℕ) → All (λ p. P p.even) (take {A = Pair} n [])
none_above P zero = All-nil (λ p. P p.even)
none_above P (suc n) = All-nil (λ p. P p.even)

above_given : (m now n least : ℕ) (holdings : List Holding) → m < least → PairsFrom least holdings → All (λ p. m < p.even) (take n (free_pairs now holdings))
above_given m now n least [] below h = none_above (λ e. m < e) n
above_given m now zero least (s ∷ ss) below h = All-nil (λ p. m < p.even)
above_given m now (suc n) least (s ∷ ss) below h =
    elim (is_free now s) as (λ b. All (λ p. m < p.even) (take (suc n) (map pair_of (cond b (s ∷ filter (is_free now) ss) (filter (is_free now) ss))))) [
      | true ↦ All-cons (λ p. m < p.even) (pair_of s) (take n (free_pairs now ss)) (omega arith) (above_given m now n (s.even + 2) ss (omega arith) h.3)
      | false ↦ above_given m now (suc n) (s.even + 2) ss (omega arith) h.3
    ]

-- each leads a pair
pub leads_given : (now n least : ℕ) (holdings : List Holding) → min_port ≤ least → PairsFrom least holdings → All (λ p. LeadsPair p.even) (take n (free_pairs now holdings))
leads_given now n least [] from h = none_above LeadsPair n
leads_given now zero least (s ∷ ss) from h = All-nil (λ p. LeadsPair p.even)
leads_given now (suc n) least (s ∷ ss) from h =
    elim (is_free now s) as (λ b. All (λ p. LeadsPair p.even) (take (suc n) (map pair_of (cond b (s ∷ filter (is_free now) ss) (filter (is_free now) ss))))) [
      | true ↦ All-cons (λ p. LeadsPair p.even) (pair_of s) (take n (free_pairs now ss)) ((omega arith), h.1, h.2) (leads_given now n (s.even + 2) ss (omega arith) h.3)
      | false ↦ leads_given now (suc n) (s.even + 2) ss (omega arith) h.3
    ]

rising_none : (n : ℕ) → AreRising (take {A = Pair} n [])
rising_none zero = λ i j d below within. absurd (omega arith)
rising_none (suc n) = λ i j d below within. absurd (omega arith)

pub rising_given : (now n least : ℕ) (holdings : List Holding) → PairsFrom least holdings → AreRising (take n (free_pairs now holdings))
rising_given now n least [] h = rising_none n
rising_given now zero least (s ∷ ss) h = rising_none 0
rising_given now (suc n) least (s ∷ ss) h =
    elim (is_free now s) as (λ b. AreRising (take (suc n) (map pair_of (cond b (s ∷ filter (is_free now) ss) (filter (is_free now) ss))))) [
      | true ↦ AllPairs-cons (λ p q. p.even + 1 < q.even) (pair_of s) (take n (free_pairs now ss))
          (above_given (s.even + 1) now n (s.even + 2) ss (omega arith) h.3) (rising_given now n (s.even + 2) ss h.3)
      | false ↦ rising_given now (suc n) (s.even + 2) ss h.3
    ]

-- only a port that leads a pair has a holder
pub held_leads : (n : ℕ) (holdings : List Holding) (e call : ℕ) → min_port ≤ n → PairsFrom n holdings → holder_of holdings e ≡ Some call → LeadsPair e
held_leads n [] e call from h = λ held. cc held
held_leads n (s ∷ ss) e call from h =
    (elim (s.even == e) as (λ b. (s.even == e) ≡ b → option_and_then (λ (t : Holding). t.holder) (cond b (Some s) (find (has_even e) ss)) ≡ Some call → LeadsPair e) [
      | true ↦ λ is held. let same : s.even ≡ e = eqb-true s.even e is in subst LeadsPair same ((omega arith), h.1, h.2)
      | false ↦ λ is held. held_leads (s.even + 2) ss e call (omega arith) h.3 held
    ]) refl

-- ---- pairs that rest

-- a pair that was just freed is not free
pub still_resting : (moment now : ℕ) (s : Holding) → moment < now + rest_time → is_free moment (freed_at now s) ≡ false
still_resting moment now s before = ap not (lt-ltb moment (now + rest_time) before)

gone : (moment e : ℕ) (s : Holding) (ss : List Holding) → is_free moment s ≡ false → is_among (free_pairs moment ss) e ≡ false → is_among (free_pairs moment (s ∷ ss)) e ≡ false
gone moment e s ss out rest = rw out rest

passed : (moment e : ℕ) (s : Holding) (ss : List Holding) → (s.even == e) ≡ false → is_among (free_pairs moment ss) e ≡ false → is_among (free_pairs moment (s ∷ ss)) e ≡ false
passed moment e s ss other rest =
    elim (is_free moment s) as (λ b. is_among (map pair_of (cond b (s ∷ filter (is_free moment) ss) (filter (is_free moment) ss))) e ≡ false) [
      | true ↦ rw other rest
      | false ↦ rest
    ]

pub rests-released : (pair : Pair) (now moment : ℕ) (holdings : List Holding) → moment < now + rest_time → is_among (free_pairs moment (released pair now holdings)) pair.even ≡ false
rests-released pair now moment [] before = refl
rests-released pair now moment (s ∷ ss) before =
    let rest = rests-released pair now moment ss before in
    let f = holding_after_release pair now in
    (elim (s.even == pair.even) as (λ b. (s.even == pair.even) ≡ b → is_among (free_pairs moment (cond b (freed_at now s) s ∷ released pair now ss)) pair.even ≡ false) [
      | true ↦ λ is. gone moment pair.even (freed_at now s) (released pair now ss) (still_resting moment now s before) rest
      | false ↦ λ is. passed moment pair.even s (released pair now ss) is rest
    ]) refl

pub rests-dropped : (call now moment n : ℕ) (holdings : List Holding) (e : ℕ) → PairsFrom n holdings → moment < now + rest_time → is_call call (holder_of holdings e) ≡ true
    → is_among (free_pairs moment (dropped call now holdings)) e ≡ false
rests-dropped call now moment n [] e h before = λ held. refl
rests-dropped call now moment n (s ∷ ss) e h before =
    let rest = dropped call now ss in
    (elim (s.even == e) as (λ b. (s.even == e) ≡ b → is_call call (option_and_then (λ (t : Holding). t.holder) (cond b (Some s) (find (has_even e) ss))) ≡ true
    → is_among (free_pairs moment (holding_after_drop call now s ∷ rest)) e ≡ false) [
      | true ↦ λ is held. let at : s.even ≡ e = eqb-true s.even e is in
          rw held (gone moment e (freed_at now s) rest (still_resting moment now s before)
          (none_free moment (s.even + 2) rest e (PairsFrom-dropped call now (s.even + 2) ss h.3) (omega arith)))
      | false ↦ λ is held. passed moment e (holding_after_drop call now s) rest (ap (λ m. m == e) (dropped_even call now s) ∙ is)
          (rests-dropped call now moment (s.even + 2) ss e h.3 before held)
    ]) refl

pub rests-others : (call : ℕ) (kept : List Pair) (now moment n : ℕ) (holdings : List Holding) (e : ℕ) → PairsFrom n holdings → moment < now + rest_time
    → is_call call (holder_of holdings e) ≡ true → is_among kept e ≡ false → is_among (free_pairs moment (others_freed call kept now holdings)) e ≡ false
rests-others call kept now moment n [] e h before = λ held out. refl
rests-others call kept now moment n (s ∷ ss) e h before =
    let rest = others_freed call kept now ss in
    (elim (s.even == e) as (λ b. (s.even == e) ≡ b → is_call call (option_and_then (λ (t : Holding). t.holder) (cond b (Some s) (find (has_even e) ss))) ≡ true
    → is_among kept e ≡ false → is_among (free_pairs moment (holding_after_freeing_others call kept now s ∷ rest)) e ≡ false) [
      | true ↦ λ is held out. let at : s.even ≡ e = eqb-true s.even e is in
          let unkept : is_among kept s.even ≡ false = ap (is_among kept) at ∙ out in
          rw (held, unkept) (gone moment e (freed_at now s) rest (still_resting moment now s before)
          (none_free moment (s.even + 2) rest e (PairsFrom-others call kept now (s.even + 2) ss h.3) (omega arith)))
      | false ↦ λ is held out. passed moment e (holding_after_freeing_others call kept now s) rest (ap (λ m. m == e) (others_even call kept now s) ∙ is)
          (rests-others call kept now moment (s.even + 2) ss e h.3 before held out)
    ]) refl
