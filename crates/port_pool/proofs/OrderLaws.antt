-- Lemmas on the place of a port among pairs that rise.
use Rattle.std.proofs.Common.{◌≡◌, ◌<◌, ◌≤◌, ◌∙◌, ℕ, true, false, ltb, List, length, get_or, Some, None, inl, inr, refl, ap, arith}
use Rattle.std.specs.List.{position, position_or_len}
use Rattle.std.specs.List.Sorted.{IsPartitionedBy, IsPartitionPoint}
use Rattle.std.proofs.lemmas.Bool.{ltb-true, ltb-false, lt-ltb, le-ltb, eq-eqb, ne_eqb, cases_lt}
use Rattle.std.proofs.lemmas.List.Sums.{position_or_len_is}
use Rattle.port_pool.specs.declared.holdings.Holding.{Holding}
use Rattle.port_pool.specs.Holdings.{has_even, PairsRise}
use Rattle.port_pool.specs.Places.{no_holding}

evens_rise : (holdings : List Holding) (i j : ℕ) (d : Holding) → PairsRise holdings → i ≤ j → j < length holdings → (get_or holdings i d).even ≤ (get_or holdings j d).even
evens_rise holdings i j d rise le less =
    elim (cases_lt i j) [
      | inl before ↦ (let above = rise i j d before less in omega (arith, above))
      | inr same ↦ (let at : i ≡ j = omega (arith, le, same) in let e = ap (λ k. (get_or holdings k d).even) at in omega (arith, e))
    ]

-- a pair below the port comes before all that are not
pub parted_below : (port : ℕ) (holdings : List Holding) → PairsRise holdings → IsPartitionedBy (λ s. ltb s.even port) holdings
parted_below port holdings rise i j d le less below =
    let lower = evens_rise holdings i j d rise le less in
    let under = ltb-true (get_or holdings j d).even port below in
    lt-ltb (get_or holdings i d).even port (omega (arith, lower, under))

module _ (port : ℕ) (holdings : List Holding) (i : ℕ) (point : IsPartitionPoint (λ s. ltb s.even port ≡ true) (λ s. ltb s.even port ≡ false) holdings i) where
  not_before : (k : ℕ) → k < i → (get_or holdings k no_holding).even ≡ port → ⊥
  not_before k less same = (let under = ltb-true (get_or holdings k no_holding).even port (point.0 k no_holding (omega arith) less) in omega (arith, under, same))

  not_under : (k : ℕ) → i ≤ k → k < length holdings → port ≤ (get_or holdings k no_holding).even
  not_under k from less = ltb-false (get_or holdings k no_holding).even port (point.1 k no_holding from less)

  pub place_found : i < length holdings → (get_or holdings i no_holding).even ≡ port → Some i ≡ position (has_even port) holdings
  place_found less same =
      let at : position_or_len (has_even port) holdings ≡ i =
      position_or_len_is (has_even port) holdings i no_holding (omega (arith, less)) (λ k before. ne_eqb (get_or holdings k no_holding).even port (not_before k before)) (λ _. eq-eqb (get_or holdings i no_holding).even port same) in
      rw (at, lt-ltb i (length holdings) less) refl

  pub place_none : PairsRise holdings → (i < length holdings → (get_or holdings i no_holding).even ≡ port → ⊥) → None ≡ position (has_even port) holdings
  place_none rise other =
      let n = length holdings in
      let at : position_or_len (has_even port) holdings ≡ n =
      position_or_len_is (has_even port) holdings n no_holding (omega arith) (λ k less. ne_eqb (get_or holdings k no_holding).even port (absent k less)) (λ less. absurd (omega (arith, less))) in
      rw (at, le-ltb n n (omega arith)) refl
    where
      absent : (k : ℕ) → k < length holdings → (get_or holdings k no_holding).even ≡ port → ⊥
      absent k less same =
          elim (cases_lt k i) [
            | inl before ↦ not_before k before same
            | inr from ↦ elim (cases_lt i k) [
              | inl behind ↦ (let under = not_under i (omega arith) (omega (arith, less, behind)) in let above = rise i k no_holding behind less in omega (arith, under, above, same))
              | inr most ↦ (let at : i ≡ k = omega (arith, from, most) in other (omega (arith, at, less)) (ap (λ m. (get_or holdings m no_holding).even) at ∙ same))
            ]
          ]
