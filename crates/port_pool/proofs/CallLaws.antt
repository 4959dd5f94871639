-- Lemmas on the places of the pairs that a call holds, and on the index of them.
use Rattle.std.proofs.Common.{◌≡◌, ◌&&◌, not, ◌+◌, ◌<◌, ◌≤◌, ◌∙◌, ℕ, true, false, cond, eqb, List, [], ◌∷◌, length, map, filter, get_or, set, ◌++◌, ◌*◌, ◌%◌, Option, Some, None, is_none, count_by, refl, sym, ap, arith}
use Prim.Native.Nat.{zero, suc}
use Rattle.std.proofs.lemmas.Bool.{eqb-true, eqb-false, eq-eqb, ne_eqb}
use Rattle.std.specs.List.{flat_map, range_with_len}
use Rattle.std.proofs.lemmas.List.{length-map, get_or-map}
use Rattle.std.proofs.lemmas.List.Folds.{flat_map-map}
use Rattle.std.proofs.lemmas.List.Sums.{sum_by-set, length-filter}
use Rattle.index.specs.declared.index.Entry.{Entry}
use Rattle.index.specs.Entries.{numbers_of}
use Rattle.index.specs.Numbers.{Indexed, put_number, remove_number}
use Rattle.index.proofs.NumberLaws.{set_same, set_put, set_remove, set_fewer}
use Rattle.port_pool.specs.Limits.{min_port, last_port}
use Rattle.port_pool.specs.declared.pair.Pair.{Pair}
use Rattle.port_pool.specs.declared.holdings.Holding.{Holding}
use Rattle.port_pool.specs.Holdings.{unheld, unheld_pairs, is_call, holds, held_by, freed_at, is_among, is_other, holding_after_freeing_others, others_freed}
use Rattle.port_pool.specs.Pool.{ports_of}
use Rattle.port_pool.specs.Places.{no_holding, is_unheld, places_of, kept_from, at_place, vacated, IsIndexed}
use Rattle.port_pool.proofs.HoldingLaws.{PairsFrom-unheld}
use Rattle.port_pool.proofs.PlaceLaws.{set_at, PairsFrom-at, ports_of_place, ports_at}

-- ---- a change of one holding

-- the places of a call, before and after the change
module _ (call : ℕ) (f : Holding → Holding) (d : Holding) (holdings : List Holding) (i : ℕ) where
  places_at : places_of call 0 (at_place i f holdings) ≡ places_of call 0 (set holdings i (f (get_or holdings i d)))
  places_at = ap (places_of call 0) (sym (set_at f holdings i d))

  places_same : holds call (f (get_or holdings i d)) ≡ holds call (get_or holdings i d) → places_of call 0 (at_place i f holdings) ≡ places_of call 0 holdings
  places_same e = places_at ∙ set_same (holds call) holdings i 0 (f (get_or holdings i d)) d e

  places_put : i < length holdings → holds call (get_or holdings i d) ≡ false → holds call (f (get_or holdings i d)) ≡ true
      → places_of call 0 (at_place i f holdings) ≡ put_number (places_of call 0 holdings) i
  places_put less was is = places_at ∙ set_put (holds call) holdings i 0 i (f (get_or holdings i d)) d (omega arith) less was is

  places_remove : i < length holdings → holds call (get_or holdings i d) ≡ true → holds call (f (get_or holdings i d)) ≡ false
      → places_of call 0 (at_place i f holdings) ≡ remove_number (places_of call 0 holdings) i
  places_remove less was is = places_at ∙ set_remove (holds call) holdings i 0 i (f (get_or holdings i d)) d (omega arith) less was is

  pub places_fewer : i < length holdings → holds call (get_or holdings i d) ≡ true → holds call (f (get_or holdings i d)) ≡ false
      → length (places_of call 0 holdings) ≡ suc (length (places_of call 0 (at_place i f holdings)))
  places_fewer less was is = set_fewer (holds call) holdings i 0 (f (get_or holdings i d)) d less was is ∙ ap (λ ns. suc (length ns)) (sym places_at)

-- ---- pairs that nobody holds

abbrev unheld_in : List Holding → ℕ
unheld_in holdings = length (filter is_unheld holdings)

unheld_at : (f : Holding → Holding) (holdings : List Holding) (i : ℕ) (d : Holding) → i < length holdings
    → unheld_in (at_place i f holdings) + cond (is_unheld (get_or holdings i d)) 1 0 ≡ unheld_in holdings + cond (is_unheld (f (get_or holdings i d))) 1 0
unheld_at f holdings i d less =
    let count = sum_by-set (λ s. cond (is_unheld s) 1 0) holdings i (f (get_or holdings i d)) d less in
    let after = length-filter is_unheld (at_place i f holdings) ∙ ap (count_by is_unheld) (sym (set_at f holdings i d)) in
    let before = length-filter is_unheld holdings in
    omega (arith, after, before, count)

-- ---- the index after a change

own_call : (call : ℕ) (o : Option ℕ) → o ≡ Some call → is_call call o ≡ true
own_call call o is = rw is (eq-eqb call call refl)

other_call : (call q : ℕ) (o : Option ℕ) → o ≡ Some call → eqb q call ≡ false → is_call q o ≡ false
other_call call q o is ne = rw is (ne_eqb call q (λ same. eqb-false q call ne (sym same)))

none_call : (q : ℕ) (o : Option ℕ) → o ≡ None → is_call q o ≡ false
none_call q o is = rw is refl

-- a holding whose holder stays
pub IsIndexed-kept : (f : Holding → Holding) (holdings : List Holding) (calls : Indexed) (i : ℕ) (d : Holding) → ((s : Holding) → (f s).even ≡ s.even) → ((s : Holding) → (f s).holder ≡ s.holder)
    → i < length holdings → IsIndexed holdings calls → IsIndexed (at_place i f holdings) calls
IsIndexed-kept f holdings calls i d even holder less h = record {
  rising = PairsFrom-at f even min_port holdings i h.rising;
  by_call = λ q. h.by_call q ∙ sym (places_same q f d holdings i (ap (is_call q) (holder (get_or holdings i d))));
  room =
      let count = unheld_at f holdings i d less in
      let same = ap (λ o. cond {A = ℕ} (is_none o) 1 0) (holder (get_or holdings i d)) in
      omega (arith, h.room, count, same);
}

pub IsIndexed-vacated : (holdings : List Holding) (calls calls' : Indexed) (i call : ℕ) (d : Holding) → IsIndexed holdings calls → i < length holdings → (get_or holdings i d).holder ≡ Some call
    → ((q : ℕ) → numbers_of calls'.entries q ≡ cond (eqb q call) (remove_number (numbers_of calls.entries call) i) (numbers_of calls.entries q))
    → length (numbers_of calls.entries call) + calls.room ≤ length (numbers_of calls'.entries call) + calls'.room
    → IsIndexed (at_place i vacated holdings) calls'
IsIndexed-vacated holdings calls calls' i call d h less was removed more =
    let mine = own_call call (get_or holdings i d).holder was in
    let by : (q : ℕ) → numbers_of calls'.entries q ≡ places_of q 0 (at_place i vacated holdings) = λ q. removed q ∙
    elim (eqb q call) as (λ b. eqb q call ≡ b → cond b (remove_number (numbers_of calls.entries call) i) (numbers_of calls.entries q) ≡ places_of q 0 (at_place i vacated holdings)) [
      | true ↦ λ e. rw (eqb-true q call e) (ap (λ ns. remove_number ns i) (h.by_call call) ∙ sym (places_remove call vacated d holdings i less mine refl))
      | false ↦ λ e. h.by_call q ∙ sym (places_same q vacated d holdings i (sym (other_call call q (get_or holdings i d).holder was e)))
    ] refl in
    let count = unheld_at vacated holdings i d less in
    let held = ap (λ o. cond {A = ℕ} (is_none o) 1 0) was in
    let fewer = places_fewer call vacated d holdings i less mine refl in
    let old = ap length (h.by_call call) in
    let new = ap length (by call) in
    record {
      rising = PairsFrom-at vacated (λ s. refl) min_port holdings i h.rising;
      by_call = by;
      room = omega (arith, h.room, count, held, fewer, old, new, more);
    }

pub IsIndexed-occupied : (holdings : List Holding) (calls calls' : Indexed) (i call : ℕ) (d : Holding) → IsIndexed holdings calls → i < length holdings → (get_or holdings i d).holder ≡ None
    → ((q : ℕ) → numbers_of calls'.entries q ≡ cond (eqb q call) (put_number (numbers_of calls.entries call) i) (numbers_of calls.entries q))
    → calls.room ≤ calls'.room + 1
    → IsIndexed (at_place i (held_by call) holdings) calls'
IsIndexed-occupied holdings calls calls' i call d h less was put more =
    let by : (q : ℕ) → numbers_of calls'.entries q ≡ places_of q 0 (at_place i (held_by call) holdings) = λ q. put q ∙
    elim (eqb q call) as (λ b. eqb q call ≡ b → cond b (put_number (numbers_of calls.entries call) i) (numbers_of calls.entries q) ≡ places_of q 0 (at_place i (held_by call) holdings)) [
      | true ↦ λ e. rw (eqb-true q call e) (ap (λ ns. put_number ns i) (h.by_call call)
          ∙ sym (places_put call (held_by call) d holdings i less (none_call call (get_or holdings i d).holder was) (eq-eqb call call refl)))
      | false ↦ λ e. h.by_call q ∙ sym (places_same q (held_by call) d holdings i (other_call call q (Some call) refl e ∙ sym (none_call q (get_or holdings i d).holder was)))
    ] refl in
    let count = unheld_at (held_by call) holdings i d less in
    let free = ap (λ o. cond {A = ℕ} (is_none o) 1 0) was in
    record {
      rising = PairsFrom-at (held_by call) (λ s. refl) min_port holdings i h.rising;
      by_call = by;
      room = omega (arith, h.room, count, free, more);
    }

-- a pair that nobody holds can be put
pub room_for : (holdings : List Holding) (calls : Indexed) (i : ℕ) (d : Holding) → IsIndexed holdings calls → i < length holdings → (get_or holdings i d).holder ≡ None → 0 < calls.room
room_for holdings calls i d h less was =
    let count = unheld_at (held_by 0) holdings i d less in
    let free = ap (λ o. cond {A = ℕ} (is_none o) 1 0) was in
    omega (arith, h.room, count, free)

-- ---- the kth pair of a call

place_from_first : (n k : ℕ) (ns : List ℕ) → k < suc (length ns) → ((j : ℕ) → j < length ns → n ≤ get_or ns j 0) → n ≤ get_or (n ∷ ns) k 0
place_from_first n zero ns less rest = omega arith
place_from_first n (suc k) ns less rest = rest k (omega arith)

place_from : (call : ℕ) (holdings : List Holding) (n k : ℕ) → k < length (places_of call n holdings) → n ≤ get_or (places_of call n holdings) k 0
place_from call [] n k = λ less. absurd (omega arith)
place_from call (s ∷ ss) n k =
    elim (holds call s) as (λ b. k < length (cond b (n ∷ places_of call (1 + n) ss) (places_of call (1 + n) ss)) → n ≤ get_or (cond b (n ∷ places_of call (1 + n) ss) (places_of call (1 + n) ss)) k 0) [
      | true ↦ λ less. place_from_first n k (places_of call (1 + n) ss) less (λ j within. (let rest = place_from call ss (1 + n) j within in omega (arith, rest)))
      | false ↦ λ less. (let rest = place_from call ss (1 + n) k less in omega (arith, rest))
    ]

abbrev pub IsKth : ℕ → List Holding → ℕ → ℕ → ℕ → Type 0
IsKth call holdings n k i = (k < length (places_of call n holdings)) × (get_or (places_of call n holdings) k 0 ≡ n + i)

-- it is the kth of those after the first holding, too
behind_held : (call : ℕ) (s : Holding) (ss : List Holding) (n k i : ℕ) → holds call s ≡ true → IsKth call (s ∷ ss) n (suc k) (suc i) → IsKth call ss (1 + n) k i
behind_held call s ss n k i is (less, at) =
    let all : places_of call n (s ∷ ss) ≡ n ∷ places_of call (1 + n) ss = rw is refl in
    let fewer = ap length all in
    let same = ap (λ ns. get_or ns (suc k) 0) all in
    (omega (arith, fewer, less), sym same ∙ at ∙ omega arith)

behind_other : (call : ℕ) (s : Holding) (ss : List Holding) (n k i : ℕ) → holds call s ≡ false → IsKth call (s ∷ ss) n k (suc i) → IsKth call ss (1 + n) k i
behind_other call s ss n k i is (less, at) =
    let all : places_of call n (s ∷ ss) ≡ places_of call (1 + n) ss = rw is refl in
    let fewer = ap length all in
    let same = ap (λ ns. get_or ns k 0) all in
    (omega (arith, fewer, less), sym same ∙ at ∙ omega arith)

-- the first holding is only the first of a call's
first_held : (call : ℕ) (s : Holding) (ss : List Holding) (n k : ℕ) → IsKth call (s ∷ ss) n k 0 → (holds call s ≡ true) × (k ≡ 0)
first_held call s ss n k kth =
    elim (holds call s) as (λ b. holds call s ≡ b → (b ≡ true) × (k ≡ 0)) [
      | true ↦ λ is. (refl, none_behind k is kth)
      | false ↦ λ is. absurd (other is kth)
    ] refl
  where
    none_behind : (k : ℕ) → holds call s ≡ true → IsKth call (s ∷ ss) n k 0 → k ≡ 0
    none_behind zero is kth = refl
    none_behind (suc k) is (less, at) =
        let all : places_of call n (s ∷ ss) ≡ n ∷ places_of call (1 + n) ss = rw is refl in
        let fewer = ap length all in
        let same = ap (λ ns. get_or ns (suc k) 0) all in
        let from = place_from call ss (1 + n) k (omega (arith, fewer, less)) in
        absurd (omega (arith, from, same, at))

    other : holds call s ≡ false → IsKth call (s ∷ ss) n k 0 → ⊥
    other is (less, at) =
        let all : places_of call n (s ∷ ss) ≡ places_of call (1 + n) ss = rw is refl in
        let fewer = ap length all in
        let same = ap (λ ns. get_or ns k 0) all in
        let from = place_from call ss (1 + n) k (omega (arith, fewer, less)) in
        omega (arith, from, same, at)

-- the call holds the first holding, or it does not, and the place is one after it
not_first : (call : ℕ) (s : Holding) (ss : List Holding) (n i : ℕ) → holds call s ≡ true → IsKth call (s ∷ ss) n 0 (suc i) → ⊥
not_first call s ss n i is (less, at) =
    let all : places_of call n (s ∷ ss) ≡ n ∷ places_of call (1 + n) ss = rw is refl in
    let same = ap (λ ns. get_or ns 0 0) all in
    omega (arith, same, at)

-- the call holds the pair there
pub kth_held : (call : ℕ) (holdings : List Holding) (n k i : ℕ) (d : Holding) → IsKth call holdings n k i → (i < length holdings) × (holds call (get_or holdings i d) ≡ true)
kth_held call [] n k i d (less, at) = absurd (omega (arith, less))
kth_held call (s ∷ ss) n k zero d kth = (omega arith, (first_held call s ss n k kth).0)
kth_held call (s ∷ ss) n zero (suc i) d kth =
    elim (holds call s) as (λ b. holds call s ≡ b → (suc i < suc (length ss)) × (holds call (get_or ss i d) ≡ true)) [
      | true ↦ λ is. absurd (not_first call s ss n i is kth)
      | false ↦ λ is. (let rest = kth_held call ss (1 + n) 0 i d (behind_other call s ss n 0 i is kth) in (omega (arith, rest.0), rest.1))
    ] refl
kth_held call (s ∷ ss) n (suc k) (suc i) d kth =
    elim (holds call s) as (λ b. holds call s ≡ b → (suc i < suc (length ss)) × (holds call (get_or ss i d) ≡ true)) [
      | true ↦ λ is. (let rest = kth_held call ss (1 + n) k i d (behind_held call s ss n k i is kth) in (omega (arith, rest.0), rest.1))
      | false ↦ λ is. (let rest = kth_held call ss (1 + n) (suc k) i d (behind_other call s ss n (suc k) i is kth) in (omega (arith, rest.0), rest.1))
    ] refl

-- ---- pairs that are freed except for some

module _ (call : ℕ) (kept : List Pair) where
  -- a pair that the call does not hold is passed
  kept_other : (k : ℕ) (s : Holding) (ss : List Holding) → holds call s ≡ false → kept_from call kept k (s ∷ ss) ≡ kept_from call kept k ss
  kept_other zero s ss is = rw is refl
  kept_other (suc k) s ss is = rw is refl

  kept_held : (k : ℕ) (s : Holding) (ss : List Holding) → holds call s ≡ true → kept_from call kept (suc k) (s ∷ ss) ≡ kept_from call kept k ss
  kept_held k s ss is = rw is refl

  -- past the last pair of the call
  pub kept_past : (holdings : List Holding) (n : ℕ) → kept_from call kept (length (places_of call n holdings)) holdings ≡ true
  kept_past [] n = refl
  kept_past (s ∷ ss) n =
      elim (holds call s) as (λ b. holds call s ≡ b → kept_from call kept (length (cond b (n ∷ places_of call (1 + n) ss) (places_of call (1 + n) ss))) (s ∷ ss) ≡ true) [
        | true ↦ λ is. kept_held (length (places_of call (1 + n) ss)) s ss is ∙ kept_past ss (1 + n)
        | false ↦ λ is. kept_other (length (places_of call (1 + n) ss)) s ss is ∙ kept_past ss (1 + n)
      ] refl

  -- if all are kept, none is freed
  pub none_freed : (now : ℕ) (holdings : List Holding) → kept_from call kept 0 holdings ≡ true → others_freed call kept now holdings ≡ holdings
  none_freed now [] h = refl
  none_freed now (s ∷ ss) h =
      elim (is_other call kept s) as (λ b. (not b && kept_from call kept 0 ss) ≡ true → cond b (freed_at now s) s ∷ others_freed call kept now ss ≡ s ∷ ss) [
        | true ↦ λ h. cc h
        | false ↦ λ h. ap (λ rest. s ∷ rest) (none_freed now ss h)
      ] h

  -- the kth is kept, and so are those after it
  pub kept_here : (holdings : List Holding) (n k i : ℕ) (d : Holding) → IsKth call holdings n k i → is_among kept (get_or holdings i d).even ≡ true → kept_from call kept (suc k) holdings ≡ true
      → kept_from call kept k holdings ≡ true
  kept_here [] n k i d kth here h = refl
  kept_here (s ∷ ss) n k zero d kth here h =
      let first = first_held call s ss n k kth in
      let behind : kept_from call kept 0 ss ≡ true = sym (kept_held 0 s ss first.0) ∙ ap (λ m. kept_from call kept (suc m) (s ∷ ss)) (sym first.1) ∙ h in
      ap (λ m. kept_from call kept m (s ∷ ss)) first.1 ∙ rw (here, first.0) behind
  kept_here (s ∷ ss) n zero (suc i) d kth here h =
      elim (holds call s) as (λ b. holds call s ≡ b → kept_from call kept 0 (s ∷ ss) ≡ true) [
        | true ↦ λ is. absurd (not_first call s ss n i is kth)
        | false ↦ λ is. kept_other 0 s ss is ∙ kept_here ss (1 + n) 0 i d (behind_other call s ss n 0 i is kth) here (sym (kept_other 1 s ss is) ∙ h)
      ] refl
  kept_here (s ∷ ss) n (suc k) (suc i) d kth here h =
      elim (holds call s) as (λ b. holds call s ≡ b → kept_from call kept (suc k) (s ∷ ss) ≡ true) [
        | true ↦ λ is. kept_held k s ss is ∙ kept_here ss (1 + n) k i d (behind_held call s ss n k i is kth) here (sym (kept_held (suc k) s ss is) ∙ h)
        | false ↦ λ is. kept_other (suc k) s ss is ∙ kept_here ss (1 + n) (suc k) i d (behind_other call s ss n (suc k) i is kth) here (sym (kept_other (suc (suc k)) s ss is) ∙ h)
      ] refl

  -- the kth is freed, and those after it are kept
  pub kept_behind : (now : ℕ) (holdings : List Holding) (n k i : ℕ) → IsKth call holdings n k i → kept_from call kept (suc k) holdings ≡ true → kept_from call kept k (at_place i (freed_at now) holdings) ≡ true
  kept_behind now [] n k i kth h = refl
  kept_behind now (s ∷ ss) n k zero kth h =
      let first = first_held call s ss n k kth in
      let behind : kept_from call kept 0 ss ≡ true = sym (kept_held 0 s ss first.0) ∙ ap (λ m. kept_from call kept (suc m) (s ∷ ss)) (sym first.1) ∙ h in
      ap (λ m. kept_from call kept m (freed_at now s ∷ ss)) first.1 ∙ behind
  kept_behind now (s ∷ ss) n zero (suc i) kth h =
      let rest = at_place i (freed_at now) ss in
      elim (holds call s) as (λ b. holds call s ≡ b → kept_from call kept 0 (s ∷ rest) ≡ true) [
        | true ↦ λ is. absurd (not_first call s ss n i is kth)
        | false ↦ λ is. kept_other 0 s rest is ∙ kept_behind now ss (1 + n) 0 i (behind_other call s ss n 0 i is kth) (sym (kept_other 1 s ss is) ∙ h)
      ] refl
  kept_behind now (s ∷ ss) n (suc k) (suc i) kth h =
      let rest = at_place i (freed_at now) ss in
      elim (holds call s) as (λ b. holds call s ≡ b → kept_from call kept (suc k) (s ∷ rest) ≡ true) [
        | true ↦ λ is. kept_held k s rest is ∙ kept_behind now ss (1 + n) k i (behind_held call s ss n k i is kth) (sym (kept_held (suc k) s ss is) ∙ h)
        | false ↦ λ is. kept_other (suc k) s rest is ∙ kept_behind now ss (1 + n) (suc k) i (behind_other call s ss n (suc k) i is kth) (sym (kept_other (suc (suc k)) s ss is) ∙ h)
      ] refl

  pub other_is : (s : Holding) → holds call s ≡ true → is_among kept s.even ≡ false → is_other call kept s ≡ true
  other_is s mine out = rw (mine, out) refl

  -- freeing one of the others first frees the same
  pub freed_same : (now : ℕ) (holdings : List Holding) (i : ℕ) (d : Holding) → i < length holdings → is_other call kept (get_or holdings i d) ≡ true
      → others_freed call kept now (at_place i (freed_at now) holdings) ≡ others_freed call kept now holdings
  freed_same now [] i d less is = refl
  freed_same now (s ∷ ss) zero d less is = rw is refl
  freed_same now (s ∷ ss) (suc i) d less is = ap (λ rest. holding_after_freeing_others call kept now s ∷ rest) (freed_same now ss i d (omega arith) is)

-- ---- a new pool

places_unheld : (call first n k m : ℕ) → places_of call m (map (unheld first) (range_with_len k n)) ≡ []
places_unheld call first zero k m = refl
places_unheld call first (suc n) k m = places_unheld call first n (k + 1) (1 + m)

count_unheld : (first n k : ℕ) → unheld_in (map (unheld first) (range_with_len k n)) ≡ n
count_unheld first zero k = refl
count_unheld first (suc n) k = ap suc (count_unheld first n (k + 1))

pub IsIndexed-new : (first pairs : ℕ) (calls : Indexed) → first % 2 ≡ 0 → min_port ≤ first → first + 2 * pairs ≤ last_port + 1 → calls.entries ≡ [] → pairs ≤ calls.room
    → IsIndexed (unheld_pairs first pairs) calls
IsIndexed-new first pairs calls even from upto none room = record {
  rising = PairsFrom-unheld first pairs 0 min_port even (omega arith) (omega arith);
  by_call = λ call. ap (λ es. numbers_of es call) none ∙ sym (places_unheld call first pairs 0 0);
  room = (let count = count_unheld first pairs 0 in omega (arith, count, room));
}

-- ---- the ports of a call's pairs

-- those at the places from n on, if the first of these holdings has the place n
ports_behind : (all : List Holding) (call : ℕ) (holdings : List Holding) (n : ℕ) → ((i : ℕ) → i < length holdings → get_or all (n + i) no_holding ≡ get_or holdings i no_holding)
    → flat_map (λ m. ports_of_place all m) (places_of call n holdings) ≡ ports_of call holdings
ports_behind all call [] n same = refl
ports_behind all call (s ∷ ss) n same =
    let rest = ports_behind all call ss (1 + n) (λ i less. ap (λ m. get_or all m no_holding) (omega arith) ∙ same (suc i) (omega arith)) in
    let here : get_or all n no_holding ≡ s = ap (λ m. get_or all m no_holding) (omega arith) ∙ same 0 (omega arith) in
    elim (holds call s) as (λ b. flat_map (λ m. ports_of_place all m) (cond b (n ∷ places_of call (1 + n) ss) (places_of call (1 + n) ss)) ≡ cond b (s.even ∷ (s.even + 1) ∷ []) [] ++ ports_of call ss) [
      | true ↦ rw (here, rest) refl
      | false ↦ rest
    ]

pub ports_at_places : (holdings : List Holding) (call : ℕ) (entries : List Entry) → map (λ e. e.number) entries ≡ places_of call 0 holdings
    → flat_map (ports_at holdings) entries ≡ ports_of call holdings
ports_at_places holdings call entries is =
    sym (flat_map-map (λ m. ports_of_place holdings m) (λ (e : Entry). e.number) entries) ∙ ap (flat_map (λ m. ports_of_place holdings m)) is
    ∙ ports_behind holdings call holdings 0 (λ i less. ap (λ m. get_or holdings m no_holding) (omega arith))

-- the place of each of the entries is one of the pool's
pub entry_within : (holdings : List Holding) (call : ℕ) (entries : List Entry) (k : ℕ) (d : Entry) → map (λ e. e.number) entries ≡ places_of call 0 holdings → k < length entries
    → IsKth call holdings 0 k (get_or entries k d).number
entry_within holdings call entries k d is less =
    let many = ap length is in
    let same = length-map entries (λ (e : Entry). e.number) in
    let at : get_or (places_of call 0 holdings) k 0 ≡ (get_or entries k d).number = sym (ap (λ ns. get_or ns k 0) is) ∙ get_or-map (λ (e : Entry). e.number) entries k d 0 less in
    (omega (arith, many, same, less), omega (arith, at))

pub entries_many : (holdings : List Holding) (call : ℕ) (entries : List Entry) → map (λ e. e.number) entries ≡ places_of call 0 holdings → length entries ≡ length (places_of call 0 holdings)
entries_many holdings call entries is = sym (length-map entries (λ (e : Entry). e.number)) ∙ ap length is
