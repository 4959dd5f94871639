-- A list that is partitioned by a test, and the place that a binary search finds in it.
use Rattle.std.proofs.Common.{◌≡◌, ℕ, ◌+◌, ◌<◌, ◌≤◌, Bool, true, false, List, [], ◌∷◌, length, ◌++◌, get_or, cond, eqb, Some, None, inl, inr, refl, sym, ap, ◌∙◌, true≢false, arith}
use Prim.Native.Nat.{zero, suc}
use denote.Param.Members.{Mut, MutLaws, post_steps}
use denote.Ref.{Bor}
use Rattle.std.specs.Fn.{ComputesKey, Called}
use Rattle.std.specs.List.{AllByRecursion, prefix_len, slice_get}
use Rattle.std.specs.List.Sorted.{IsPartitionedBy, IsPartitionPoint}
use Rattle.std.specs.Prelude.{is_some}
use Rattle.std.proofs.lemmas.Bool.{cases_lt, eqb-true, eq-eqb}
use Rattle.std.proofs.lemmas.Fn.{always_returns_same}
use Rattle.std.proofs.lemmas.List.{length-append, get_or_append_left, get_or-append-add, get_or_at}
use Rattle.std.proofs.lemmas.List.Folds.{prefix_len-append}
use Rattle.std.proofs.lemmas.List.Sums.{prefix_len-le-length, prefix_len_stops}
use Rattle.std.proofs.lemmas.List.Sorted.{IsPartitionPoint-from_clause}

some_is : {X : Type 0} (x y : X) → Some x ≡ Some y → x ≡ y
some_is x y e = cc

module _ {X : Type 0} (p : X → Bool) where
  abbrev pub AllFail : List X → Type 0
  AllFail xs = AllByRecursion (λ x. p x ≡ false) xs

  -- after one that fails, all fail
  abbrev pub IsParted : List X → Type 0
  IsParted [] = Unit {0}
  IsParted (x ∷ xs) = (p x ≡ false → AllFail xs) × IsParted xs

  fails_at : (xs : List X) (i : ℕ) (d : X) → i < length xs → AllFail xs → p (get_or xs i d) ≡ false
  fails_at [] i d lt h = absurd (omega arith)
  fails_at (x ∷ xs) zero d lt h = h.0
  fails_at (x ∷ xs) (suc i) d lt h = fails_at xs i d (omega arith) h.1

  parted : (xs : List X) → IsParted xs → IsPartitionedBy p xs
  parted [] h i j d le lt passes = absurd (omega arith)
  parted (x ∷ xs) h zero zero d le lt passes = passes
  parted (x ∷ xs) h zero (suc j) d le lt passes =
      elim (p x) as (λ b. p x ≡ b → b ≡ true) [
        | true ↦ λ _. refl
        | false ↦ λ fails. absurd (true≢false (sym passes ∙ fails_at xs j d (omega arith) (h.0 fails)))
      ] refl
  parted (x ∷ xs) h (suc i) zero d le lt passes = absurd (omega arith)
  parted (x ∷ xs) h (suc i) (suc j) d le lt passes = parted xs h.1 i j d (omega arith) (omega arith) passes

  point_is : (xs : List X) (n : ℕ) → n ≤ length xs → IsPartitionPoint (λ y. p y ≡ true) (λ y. p y ≡ false) xs n → n ≡ prefix_len p xs
  point_is [] n le point = omega arith
  point_is (x ∷ xs) zero le point = rw (point.1 zero x (omega arith) (omega arith)) refl
  point_is (x ∷ xs) (suc n) le point =
      let rest = point_is xs n (omega arith) (λ k d low high. point.0 (suc k) d (omega arith) (omega arith), λ k d low high. point.1 (suc k) d (omega arith) (omega arith)) in
      rw (point.0 zero x (omega arith) (omega arith)) (omega (arith, rest))

  -- what `partition_point` returns, if each call of the closure returns what the test does
  pub halved : {F : Type 0} {g : Mut F (Bor X × Unit {0}) Bool} {f : F} (xs : List X) (n : ℕ) → n ≤ length xs
      → ((q : X → Bool) → ComputesKey g q f → IsPartitionedBy q xs → IsPartitionPoint (λ y. q y ≡ true) (λ y. q y ≡ false) xs n)
      → IsParted xs → ((a : Bor X × Unit {0}) (r : Bool) (f' : F) → Called g f a r f' → (r ≡ p a.0.now) × (f' ≡ f)) → n ≡ prefix_len p xs
  halved xs n le clause h calls = point_is xs n le (IsPartitionPoint-from_clause p xs n clause (parted xs h) calls)

  -- what a function over such a list returns, if it counts by each test that the closure computes
  pub counted : {F : Type 0} {g : Mut F (Bor X × Unit {0}) Bool} {f : F} (xs : List X) (n : ℕ)
      → ((q : X → Bool) → ComputesKey g q f → IsPartitionedBy q xs → n ≡ prefix_len q xs)
      → IsParted xs → ((a : Bor X × Unit {0}) (r : Bool) (f' : F) → Called g f a r f' → (r ≡ p a.0.now) × (f' ≡ f)) → n ≡ prefix_len p xs
  counted {g = g} {f = f} xs n clause h calls = clause p (always_returns_same g (λ a r. r ≡ p a.0.now) f calls) (parted xs h)

  -- ---- a list in two parts

  parted_front : (xs ys : List X) → IsPartitionedBy p (xs ++ ys) → IsPartitionedBy p xs
  parted_front xs ys h i j d le lt passes =
      let len = length-append xs ys in
      sym (ap p (get_or_append_left xs ys d i (omega arith)))
      ∙ h i j d le (omega (arith, len)) (ap p (get_or_append_left xs ys d j lt) ∙ passes)

  parted_back : (xs ys : List X) → IsPartitionedBy p (xs ++ ys) → IsPartitionedBy p ys
  parted_back xs ys h i j d le lt passes =
      let len = length-append xs ys in
      sym (ap p (get_or-append-add xs ys i d))
      ∙ h (length xs + i) (length xs + j) d (omega arith) (omega (arith, len)) (ap p (get_or-append-add xs ys j d) ∙ passes)

  -- if one passes, all before it pass
  front_passes : (xs : List X) (y : X) (ys : List X) → IsPartitionedBy p (xs ++ y ∷ ys) → p y ≡ true → prefix_len p xs ≡ length xs
  front_passes xs y ys h passes =
      let n = prefix_len p xs in
      let len = length-append xs (y ∷ ys) in
      let bound = prefix_len-le-length p xs in
      elim (cases_lt n (length xs)) [
        | inl lt ↦ absurd (true≢false (sym (h n (length xs) y (omega arith) (omega (arith, len)) (ap p (get_or_at xs y ys y (length xs) refl) ∙ passes)) ∙ ap p (get_or_append_left xs (y ∷ ys) y n lt) ∙ prefix_len_stops p xs y lt))
        | inr le ↦ omega (arith, le, bound)
      ]

  sum_behind : (xs ys : List X) (n : ℕ) → n ≡ prefix_len p ys → prefix_len p xs ≡ length xs → length xs + n ≡ prefix_len p (xs ++ ys)
  sum_behind xs ys n e all = ap (λ k. length xs + k) e ∙ sym (prefix_len-append p xs ys ∙ rw (eq-eqb (prefix_len p xs) (length xs) all) refl)

  point_in_back : (xs ys : List X) (y : X) (n : ℕ) → Some y ≡ slice_get ys 0 → p y ≡ true → n ≡ prefix_len p ys
      → IsPartitionedBy p (xs ++ ys) → length xs + n ≡ prefix_len p (xs ++ ys)
  point_in_back xs [] y n is passes e h = absurd (true≢false (ap is_some is))
  point_in_back xs (z ∷ zs) y n is passes e h =
      sum_behind xs (z ∷ zs) n e (front_passes xs z zs h (sym (ap p (some_is y z is)) ∙ passes))

  by_front : (b : Bool) (n l : ℕ) → (b ≡ true → n ≡ l) → n ≡ cond b (l + 0) n
  by_front true n l h = omega (arith, h refl)
  by_front false n l h = refl

  point_in_front : (xs ys : List X) (n : ℕ) → n ≡ prefix_len p xs → prefix_len p ys ≡ 0 → n ≡ prefix_len p (xs ++ ys)
  point_in_front xs ys n e none =
      e ∙ sym (prefix_len-append p xs ys ∙ rw none (sym (by_front (eqb (prefix_len p xs) (length xs)) (prefix_len p xs) (length xs) (eqb-true (prefix_len p xs) (length xs)))))

  pub none_in_empty : (ys : List X) → None ≡ slice_get ys 0 → prefix_len p ys ≡ 0
  none_in_empty [] is = refl
  none_in_empty (y ∷ ys) is = absurd (true≢false (sym (ap is_some is)))

  pub none_behind : (ys : List X) (y : X) → Some y ≡ slice_get ys 0 → p y ≡ false → prefix_len p ys ≡ 0
  none_behind [] y is fails = absurd (true≢false (ap is_some is))
  none_behind (z ∷ zs) y is fails = rw (sym (ap p (some_is y z is)) ∙ fails) refl

  -- what a call of the closure returns
  pub test_is : {F : Type 0} {g : Mut F (Bor X × Unit {0}) Bool} {f : F} → MutLaws g → ComputesKey g p f
      → (x : Bor X) (r : Bool) → g.post f (x, tt) r → r ≡ p x.now
  test_is {g = g} {f = f} laws computes x r post =
      let step = post_steps g f (x, tt) r laws post in
      (computes.at ((x, tt) ∷ []) r step.0 step.1).0

  module _ {F : Type 0} {g : Mut F (Bor X × Unit {0}) Bool} {f : F} (xs ys : List X) (n : ℕ) (computes : ComputesKey g p f) where
    -- the place that a search of the back finds, if its first passes
    pub place_in_back : (y : X) → Some y ≡ slice_get ys 0 → p y ≡ true → n ≤ length ys
        → ((q : X → Bool) → ComputesKey g q f → IsPartitionedBy q ys → IsPartitionPoint (λ z. q z ≡ true) (λ z. q z ≡ false) ys n)
        → IsPartitionedBy p (xs ++ ys) → length xs + n ≡ prefix_len p (xs ++ ys)
    place_in_back y is passes le clause h =
        point_in_back xs ys y n is passes (point_is ys n le (clause p computes (parted_back xs ys h))) h

    -- and the one that a search of the front finds, if none of the back passes
    pub place_in_front : prefix_len p ys ≡ 0 → n ≤ length xs
        → ((q : X → Bool) → ComputesKey g q f → IsPartitionedBy q xs → IsPartitionPoint (λ z. q z ≡ true) (λ z. q z ≡ false) xs n)
        → IsPartitionedBy p (xs ++ ys) → n ≡ prefix_len p (xs ++ ys)
    place_in_front none le clause h =
        point_in_front xs ys n (point_is xs n le (clause p computes (parted_front xs ys h))) none
