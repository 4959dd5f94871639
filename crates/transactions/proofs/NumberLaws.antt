-- The numbers of those that pass a test, once a transaction is at the least free place.
use Rattle.std.proofs.Common.{◌≡◌, ℕ, ◌+◌, Bool, true, false, cond, List, [], ◌∷◌, length, Option, Some, None, is_none, count_by, refl, sym, ap, ◌∙◌, inl, inr, arith}
use Prim.Native.Nat.{suc}
use Rattle.std.specs.List.{position_or_len}
use Rattle.std.proofs.lemmas.Bool.{le-ltb, lt-ltb, eq-eqb, cases_lt}
use Rattle.std.proofs.lemmas.List.Sums.{sum_by-cons}
use Rattle.timers.proofs.ByMoment.{set_behind}
use Rattle.index.specs.Numbers.{put_number, remove_number}
use Rattle.index.specs.Passing.{numbers_from}
use Rattle.index.proofs.NumberLaws.{put_lower}
use Rattle.transactions.specs.declared.transaction.Transaction.{Transaction}
use Rattle.transactions.specs.Contents.{placed}

behind_placed : (u t : Transaction) (slots : List (Option Transaction)) (k : ℕ) → placed (Some u ∷ slots) (1 + k) t ≡ Some u ∷ placed slots k t
behind_placed u t slots k =
    elim (cases_lt k (length slots)) [
      | inl less ↦ rw (lt-ltb k (length slots) less, lt-ltb (1 + k) (suc (length slots)) (omega (arith, less))) (set_behind (Some u) (Some t) slots k)
      | inr most ↦ rw (le-ltb k (length slots) most, le-ltb (1 + k) (suc (length slots)) (omega (arith, most))) refl
    ]

abbrev least : List (Option Transaction) → ℕ
least slots = position_or_len is_none slots

first_placed : (t : Transaction) (slots : List (Option Transaction)) → placed (None ∷ slots) 0 t ≡ Some t ∷ slots
first_placed t slots = rw (lt-ltb 0 (suc (length slots)) (omega arith)) refl

module _ (p : Option Transaction → Bool) (t : Transaction) (none : p None ≡ false) where
  pub placed_put : p (Some t) ≡ true → (slots : List (Option Transaction)) (n k : ℕ) → k ≡ n + least slots
      → numbers_from p n (placed slots (least slots) t) ≡ put_number (numbers_from p n slots) k
  placed_put is [] n k e = (let here : k ≡ n = omega (arith, e) in rw (is, here) refl)
  placed_put is (None ∷ slots) n k e =
      let here : k ≡ n = omega (arith, e) in
      rw (first_placed t slots, is, none, here) (sym (put_lower p slots n (1 + n) (omega arith)))
  placed_put is (Some u ∷ slots) n k e =
      let rest = placed_put is slots (1 + n) k (omega (arith, e)) in
      rw (behind_placed u t slots (least slots)) (elim (p (Some u)) as (λ b. cond b (n ∷ numbers_from p (1 + n) (placed slots (least slots) t)) (numbers_from p (1 + n) (placed slots (least slots) t)) ≡ put_number (cond b (n ∷ numbers_from p (1 + n) slots) (numbers_from p (1 + n) slots)) k) [
        | true ↦ rw (lt-ltb n k (omega (arith, e))) (ap (λ ns. n ∷ ns) rest)
        | false ↦ rest
      ])

  pub placed_same : p (Some t) ≡ false → (slots : List (Option Transaction)) (n : ℕ) → numbers_from p n (placed slots (least slots) t) ≡ numbers_from p n slots
  placed_same is [] n = rw is refl
  placed_same is (None ∷ slots) n = rw (first_placed t slots, is, none) refl
  placed_same is (Some u ∷ slots) n =
      let rest = placed_same is slots (1 + n) in
      rw (behind_placed u t slots (least slots)) (elim (p (Some u)) as (λ b. cond b (n ∷ numbers_from p (1 + n) (placed slots (least slots) t)) (numbers_from p (1 + n) (placed slots (least slots) t)) ≡ cond b (n ∷ numbers_from p (1 + n) slots) (numbers_from p (1 + n) slots)) [
        | true ↦ ap (λ ns. n ∷ ns) rest
        | false ↦ rest
      ])

pub placed_remove : (t : Transaction) (slots : List (Option Transaction)) (n k : ℕ) → k ≡ n + least slots
    → numbers_from is_none n (placed slots (least slots) t) ≡ remove_number (numbers_from is_none n slots) k
placed_remove t [] n k e = refl
placed_remove t (None ∷ slots) n k e =
    let here : k ≡ n = omega (arith, e) in
    rw (first_placed t slots, here, eq-eqb n n refl) refl
placed_remove t (Some u ∷ slots) n k e = rw (behind_placed u t slots (least slots)) (placed_remove t slots (1 + n) k (omega (arith, e)))

pub count_placed : (p : Option Transaction → Bool) → p None ≡ false → (t : Transaction) (slots : List (Option Transaction))
    → count_by p (placed slots (least slots) t) ≡ count_by p slots + cond (p (Some t)) 1 0
count_placed p none t [] = sum_by-cons (λ s. cond (p s) 1 0) (Some t) [] ∙ omega arith
count_placed p none t (None ∷ slots) =
    let f : Option Transaction → ℕ = λ s. cond (p s) 1 0 in
    let before = sum_by-cons f None slots in
    let zero_of : f None ≡ 0 = rw none refl in
    rw (first_placed t slots) (sum_by-cons f (Some t) slots ∙ omega (arith, before, zero_of))
count_placed p none t (Some u ∷ slots) =
    let f : Option Transaction → ℕ = λ s. cond (p s) 1 0 in
    let before = sum_by-cons f (Some u) slots in
    let rest = count_placed p none t slots in
    rw (behind_placed u t slots (least slots)) (sum_by-cons f (Some u) (placed slots (least slots) t) ∙ omega (arith, before, rest))
