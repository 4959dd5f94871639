-- The first call that passes a test, by its place.
use Rattle.std.proofs.Common.{◌≡◌, ℕ, ◌<◌, ◌≤◌, Bool, true, false, cond, List, [], ◌∷◌, length, get_or, set, remove, Some, None, find, position, slice_get, refl, sym, ap, ◌∙◌, inl, inr, arith}
use Prim.Native.Nat.{suc, zero}
use Rattle.std.specs.List.{position_or_len}
use Rattle.std.proofs.lemmas.Bool.{le-ltb, lt-ltb, cases_lt, cond-true, cond-false}
use Rattle.std.proofs.lemmas.List.Folds.{find_at}
use Rattle.std.proofs.lemmas.List.Quantifiers.{position-Some}
use Rattle.std.proofs.lemmas.Option.{none-some, slice_get_past}
use Rattle.call_traffic.specs.declared.call_traffic.CallTraffic.{CallTraffic}
use Rattle.call_traffic.specs.Calls.{with_first_told, without_first}

find_none : {X : Type 0} (p : X → Bool) (xs : List X) → position p xs ≡ None → find p xs ≡ None
find_none p xs =
    let place = position_or_len p xs in
    elim (cases_lt place (length xs)) [
      | inl less ↦ rw (lt-ltb place (length xs) less) (λ is. cc)
      | inr most ↦ λ is. find_at p xs ∙ slice_get_past xs place most
    ]

-- the place is that of the first that passes
pub record IsFirst (p : CallTraffic → Bool) (calls : List CallTraffic) (at : ℕ) (d : CallTraffic) : Type 0 where
  pub within : at < length calls
  pub passes : p (get_or calls at d) ≡ true
  pub before : (k : ℕ) → k < at → p (get_or calls k d) ≡ false

pub first_at : (p : CallTraffic → Bool) (calls : List CallTraffic) (at : ℕ) (d : CallTraffic) → position p calls ≡ Some at → IsFirst p calls at d
first_at p calls at d is =
    let facts = position-Some p calls at d is in
    record { within = facts.0; passes = facts.1; before = facts.2 }

pub behind : (p : CallTraffic → Bool) (call : CallTraffic) (calls : List CallTraffic) (at : ℕ) (d : CallTraffic) → IsFirst p (call ∷ calls) (suc at) d → IsFirst p calls at d
behind p call calls at d first = record {
  within = omega (arith, first.within);
  passes = first.passes;
  before = λ k less. first.before (suc k) (omega (arith, less));
}

finds : (p : CallTraffic → Bool) (calls : List CallTraffic) (at : ℕ) (d : CallTraffic) → IsFirst p calls at d → find p calls ≡ Some (get_or calls at d)
finds p [] at d first = absurd (omega (arith, first.within))
finds p (call ∷ calls) zero d first = cond-true (p call) _ _ first.passes
finds p (call ∷ calls) (suc at) d first = cond-false (p call) _ _ (first.before zero (omega arith)) ∙ finds p calls at d (behind p call calls at d first)

removes : (p : CallTraffic → Bool) (calls : List CallTraffic) (at : ℕ) (d : CallTraffic) → IsFirst p calls at d → without_first p calls ≡ remove calls at
removes p [] at d first = absurd (omega (arith, first.within))
removes p (call ∷ calls) zero d first = cond-true (p call) _ _ first.passes
removes p (call ∷ calls) (suc at) d first =
    cond-false (p call) _ _ (first.before zero (omega arith)) ∙ ap (λ cs. call ∷ cs) (removes p calls at d (behind p call calls at d first))

tells : (p : CallTraffic → Bool) (moment : ℕ) (calls : List CallTraffic) (at : ℕ) (d : CallTraffic) → IsFirst p calls at d →
    with_first_told p moment calls ≡ set calls at (record (get_or calls at d) { next_telling = moment })
tells p moment [] at d first = absurd (omega (arith, first.within))
tells p moment (call ∷ calls) zero d first = cond-true (p call) _ _ first.passes
tells p moment (call ∷ calls) (suc at) d first =
    cond-false (p call) _ _ (first.before zero (omega arith)) ∙ ap (λ cs. call ∷ cs) (tells p moment calls at d (behind p call calls at d first))

keeps_all : (p : CallTraffic → Bool) (calls : List CallTraffic) → find p calls ≡ None → without_first p calls ≡ calls
keeps_all p [] none = refl
keeps_all p (call ∷ calls) none =
    elim (p call) as (λ b. cond b (Some call) (find p calls) ≡ None → cond b calls (call ∷ without_first p calls) ≡ call ∷ calls) [
      | true ↦ λ e. absurd (none-some call (sym e))
      | false ↦ λ e. ap (λ cs. call ∷ cs) (keeps_all p calls e)
    ] none

tells_none : (p : CallTraffic → Bool) (moment : ℕ) (calls : List CallTraffic) → find p calls ≡ None → with_first_told p moment calls ≡ calls
tells_none p moment [] none = refl
tells_none p moment (call ∷ calls) none =
    elim (p call) as (λ b. cond b (Some call) (find p calls) ≡ None → cond b (record call { next_telling = moment } ∷ calls) (call ∷ with_first_told p moment calls) ≡ call ∷ calls) [
      | true ↦ λ e. absurd (none-some call (sym e))
      | false ↦ λ e. ap (λ cs. call ∷ cs) (tells_none p moment calls e)
    ] none

-- ---- what the functions cite

pub found : (p : CallTraffic → Bool) (calls : List CallTraffic) (at : ℕ) (d : CallTraffic) → position p calls ≡ Some at → find p calls ≡ Some (get_or calls at d)
found p calls at d is = finds p calls at d (first_at p calls at d is)

pub not_found : (p : CallTraffic → Bool) (calls : List CallTraffic) → position p calls ≡ None → find p calls ≡ None
not_found p calls none = find_none p calls none

pub within : (p : CallTraffic → Bool) (calls : List CallTraffic) (at : ℕ) (d : CallTraffic) → position p calls ≡ Some at → at < length calls
within p calls at d is = (first_at p calls at d is).within

pub taken_out : (p : CallTraffic → Bool) (calls : List CallTraffic) (at : ℕ) (d : CallTraffic) → position p calls ≡ Some at → without_first p calls ≡ remove calls at
taken_out p calls at d is = removes p calls at d (first_at p calls at d is)

pub none_taken_out : (p : CallTraffic → Bool) (calls : List CallTraffic) → position p calls ≡ None → without_first p calls ≡ calls
none_taken_out p calls none = keeps_all p calls (find_none p calls none)

pub told_at : (p : CallTraffic → Bool) (moment : ℕ) (calls : List CallTraffic) (at : ℕ) (d : CallTraffic) → position p calls ≡ Some at →
    with_first_told p moment calls ≡ set calls at (record (get_or calls at d) { next_telling = moment })
told_at p moment calls at d is = tells p moment calls at d (first_at p calls at d is)

pub none_told : (p : CallTraffic → Bool) (moment : ℕ) (calls : List CallTraffic) → position p calls ≡ None → with_first_told p moment calls ≡ calls
none_told p moment calls none = tells_none p moment calls (find_none p calls none)
