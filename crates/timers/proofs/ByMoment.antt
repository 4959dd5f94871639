-- Timers in the order in which they are due: places in them.
use Rattle.std.proofs.Common.{◌≡◌, ℕ, ◌+◌, ◌<◌, ◌≤◌, Bool, true, false, not, cond, ltb, leb, List, [], ◌∷◌, length, drop, Some, option_map, refl, sym, ap, ◌∙◌, inl, inr, arith, add-one, add_comm}
use Prim.Native.Nat.{suc}
use Rattle.std.specs.Cmp.{IsEquivalence}
use Rattle.std.specs.List.{AllByRecursion, insert, remove, find, prefix_len, position_or_len, slice_get, slice_set as set}
use Rattle.std.proofs.lemmas.Bool.{cases_lt, lt-ltb, le-ltb, ltb-false, lt-leb, le-leb, leb-false}
use Rattle.timers.specs.declared.timers.Timer.{Timer}
use Rattle.timers.specs.Queue.{MomentsRise, EachKeyOnce, put, moment, without}
use Rattle.timers.proofs.Halving.{AllFail, IsParted}
use Rattle.timers.proofs.Keys.{stands_same, without_none}

-- ---- partitioned by a moment

module _ {K : Type 0} (at : ℕ) where
  all_after : (t : Timer K) (ts : List (Timer K)) → at < t.at → AllByRecursion (λ s. t.at ≤ s.at) ts → AllFail (λ s. leb s.at at) ts
  all_after t [] lt h = tt
  all_after t (s ∷ ts) lt h = (lt-leb s.at at (omega (arith, h.0)), all_after t ts lt h.1)

  none_before : (t : Timer K) (ts : List (Timer K)) → at ≤ t.at → AllByRecursion (λ s. t.at ≤ s.at) ts → AllFail (λ s. ltb s.at at) ts
  none_before t [] le h = tt
  none_before t (s ∷ ts) le h = (le-ltb s.at at (omega (arith, h.0)), none_before t ts le h.1)

  pub parted_after : (ts : List (Timer K)) → MomentsRise ts → IsParted (λ t. leb t.at at) ts
  parted_after [] h = tt
  parted_after (t ∷ ts) h = (λ e. all_after t ts (leb-false t.at at e) h.0, parted_after ts h.1)

  pub parted_at : (ts : List (Timer K)) → MomentsRise ts → IsParted (λ t. ltb t.at at) ts
  parted_at [] h = tt
  parted_at (t ∷ ts) h = (λ e. none_before t ts (ltb-false t.at at e) h.0, parted_at ts h.1)

-- ---- what is done at a place

pub insert_behind : {X : Type 0} (x y : X) (xs : List X) (n : ℕ) → insert (x ∷ xs) (1 + n) y ≡ x ∷ insert xs n y
insert_behind x y xs n = rw add_comm (rw add-one refl)

pub set_behind : {X : Type 0} (x y : X) (xs : List X) (n : ℕ) → set (x ∷ xs) (1 + n) y ≡ x ∷ set xs n y
set_behind x y xs n = rw add_comm (rw add-one refl)

pub get_behind : {X : Type 0} (x : X) (xs : List X) (n : ℕ) → slice_get (x ∷ xs) (1 + n) ≡ slice_get xs n
get_behind x xs n = rw add_comm (rw add-one refl)

remove_behind : {X : Type 0} (x : X) (xs : List X) (n : ℕ) → remove (x ∷ xs) (1 + n) ≡ x ∷ remove xs n
remove_behind x xs n = rw add_comm (rw add-one refl)

drop_behind : {X : Type 0} (x : X) (xs : List X) (n : ℕ) → drop (1 + n) (x ∷ xs) ≡ drop n xs
drop_behind x xs n = rw add_comm (rw add-one refl)

-- inserting a timer after those that are due no later is `put`
pub put_is : {K : Type 0} (ts : List (Timer K)) (timer : Timer K) → insert ts (prefix_len (λ t. leb t.at timer.at) ts) timer ≡ put ts timer
put_is [] timer = refl
put_is (t ∷ ts) timer =
    elim (cases_lt timer.at t.at) [
      | inl lt ↦ simp (lt-ltb timer.at t.at lt, lt-leb t.at timer.at lt)
      | inr le ↦ simp (le-ltb timer.at t.at le, le-leb t.at timer.at le) (insert_behind t timer ts (prefix_len (λ s. leb s.at timer.at) ts) ∙ ap (λ xs. t ∷ xs) (put_is ts timer))
    ]

module _ {K : Type 0} (eq : K → K → Bool) (key : K) where
  abbrev is_key : Timer K → Bool
  is_key t = eq t.key key

  -- the timer of a key is among those with its moment
  place_is : (ts : List (Timer K)) (at : ℕ) → moment eq ts key ≡ Some at
      → position_or_len is_key ts ≡ prefix_len (λ t. ltb t.at at) ts + position_or_len is_key (drop (prefix_len (λ t. ltb t.at at) ts) ts)
  place_is [] at m = refl
  place_is (t ∷ ts) at m =
      let n = prefix_len (λ s. ltb s.at at) ts in
      elim (eq t.key key) as (λ b. eq t.key key ≡ b → option_map (λ s. s.at) (cond b (Some t) (find is_key ts)) ≡ Some at
      → cond (not b) (1 + position_or_len is_key ts) 0 ≡ cond (ltb t.at at) (1 + n) 0 + position_or_len is_key (drop (cond (ltb t.at at) (1 + n) 0) (t ∷ ts))) [
        | true ↦ λ e here.
            let same : t.at ≡ at = cc in
            simp (le-ltb t.at at (omega arith), e)
        | false ↦ λ e later. elim (cases_lt t.at at) [
          | inl lt ↦ simp (lt-ltb t.at at lt) (rw (drop_behind t ts n) (omega (arith, place_is ts at later)))
          | inr le ↦ simp (le-ltb t.at at le, e) (omega arith)
        ]
      ] refl m

  -- steps from the first timer with that moment
  pub steps_is : (ts : List (Timer K)) (at start steps : ℕ) → start ≡ prefix_len (λ t. ltb t.at at) ts → steps ≡ position_or_len is_key (drop start ts) → moment eq ts key ≡ Some at
      → start + steps ≡ position_or_len is_key ts
  steps_is ts at start steps from there m = rw (there, from) (sym (place_is ts at m))

  pub place_within : (ts : List (Timer K)) (at : ℕ) → moment eq ts key ≡ Some at → position_or_len is_key ts < length ts
  place_within [] at m = cc
  place_within (t ∷ ts) at m =
      elim (eq t.key key) as (λ b. option_map (λ s. s.at) (cond b (Some t) (find is_key ts)) ≡ Some at → cond (not b) (1 + position_or_len is_key ts) 0 < suc (length ts)) [
        | true ↦ λ here. omega arith
        | false ↦ λ later. omega (arith, place_within ts at later)
      ] m

  -- if each key occurs once, the others are left
  pub remove_is : IsEquivalence eq → (ts : List (Timer K)) → EachKeyOnce eq ts → remove ts (position_or_len is_key ts) ≡ without eq ts key
  remove_is laws [] once = refl
  remove_is laws (t ∷ ts) once =
      elim (eq t.key key) as (λ b. eq t.key key ≡ b → remove (t ∷ ts) (cond (not b) (1 + position_or_len is_key ts) 0) ≡ cond (not b) (t ∷ without eq ts key) (without eq ts key)) [
        | true ↦ λ same. sym (without_none eq laws ts key (sym (stands_same eq laws ts t.key key same) ∙ once.0))
        | false ↦ λ _. remove_behind t ts (position_or_len is_key ts) ∙ ap (λ xs. t ∷ xs) (remove_is laws ts once.1)
      ] refl
