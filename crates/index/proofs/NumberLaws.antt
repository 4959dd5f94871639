-- The numbers of those in a list that pass a test: before and after a change of one place, and what is found among
-- them.
use Rattle.std.proofs.Common.{◌≡◌, ℕ, ◌+◌, ◌<◌, ◌≤◌, Bool, true, false, not, ◌||◌, cond, ltb, eqb, List, [], ◌∷◌, length, map, get_or, set, Some, None, option_map, count_by, find, position, slice_get, refl, sym, ap, ◌∙◌, inl, inr, arith}
use Prim.Native.Nat.{suc, zero}
use Rattle.std.specs.List.{list_any, position_or_len}
use Rattle.std.proofs.lemmas.Bool.{true≢false, le-ltb, lt-ltb, ne_eqb, eq-eqb, cases_lt}
use Rattle.std.proofs.lemmas.List.Folds.{find_at}
use Rattle.std.proofs.lemmas.List.Sums.{sum_by-cons, sum_by-set, count_by-le-length}
use Rattle.std.proofs.lemmas.Option.{slice_get-get_or, slice_get_past}
use Rattle.index.specs.declared.index.Entry.{Entry}
use Rattle.index.specs.Numbers.{put_number, remove_number}
use Rattle.index.specs.Passing.{numbers_from}

-- ---- one number more, or one fewer

pub put_length : (ns : List ℕ) (n : ℕ) → length (put_number ns n) ≡ suc (length ns)
put_length [] n = refl
put_length (m ∷ ns) n =
    elim (ltb m n) as (λ b. length (cond b (m ∷ put_number ns n) (n ∷ m ∷ ns)) ≡ suc (suc (length ns))) [
      | true ↦ ap suc (put_length ns n)
      | false ↦ refl
    ]

pub remove_length : (ns : List ℕ) (n : ℕ) → length (remove_number ns n) ≤ length ns
remove_length [] n = omega arith
remove_length (m ∷ ns) n =
    elim (eqb m n) as (λ b. length (cond b ns (m ∷ remove_number ns n)) ≤ suc (length ns)) [
      | true ↦ omega arith
      | false ↦ (let rest = remove_length ns n in omega (arith, rest))
    ]

-- ---- what is found by the numbers of entries

find_number : (g : ℕ → Bool) (es : List Entry) → option_map (λ e. e.number) (find (λ e. g e.number) es) ≡ find g (map (λ e. e.number) es)
find_number g [] = refl
find_number g (e ∷ es) =
    elim (g e.number) as (λ b. option_map (λ x. x.number) (cond b (Some e) (find (λ x. g x.number) es)) ≡ cond b (Some e.number) (find g (map (λ x. x.number) es))) [
      | true ↦ refl
      | false ↦ find_number g es
    ]

any_number : (g : ℕ → Bool) (es : List Entry) → list_any (λ e. g e.number) es ≡ list_any g (map (λ e. e.number) es)
any_number g [] = refl
any_number g (e ∷ es) = ap (λ b. g e.number || b) (any_number g es)

-- ---- the first that passes, by its place

pub find_placed : {X : Type 0} (p : X → Bool) (xs : List X) (i : ℕ) (d : X) → position p xs ≡ Some i → find p xs ≡ Some (get_or xs i d)
find_placed p xs i d =
    let place = position_or_len p xs in
    elim (cases_lt place (length xs)) [
      | inl less ↦ rw (lt-ltb place (length xs) less) (λ is. let same : i ≡ place = cc in find_at p xs ∙ ap (slice_get xs) (sym same) ∙ slice_get-get_or xs i d (omega (arith, same, less)))
      | inr most ↦ rw (le-ltb place (length xs) most) (λ is. cc)
    ]

pub find_none : {X : Type 0} (p : X → Bool) (xs : List X) → position p xs ≡ None → find p xs ≡ None
find_none p xs =
    let place = position_or_len p xs in
    elim (cases_lt place (length xs)) [
      | inl less ↦ rw (lt-ltb place (length xs) less) (λ is. cc)
      | inr most ↦ λ is. find_at p xs ∙ slice_get_past xs place most
    ]

-- ---- the numbers from one on

module _ {X : Type 0} (p : X → Bool) where
  -- a lower number goes before them all
  pub put_lower : (xs : List X) (k n : ℕ) → k < n → put_number (numbers_from p n xs) k ≡ k ∷ numbers_from p n xs
  put_lower [] k n less = refl
  put_lower (x ∷ xs) k n less =
      elim (p x) as (λ b. put_number (cond b (n ∷ numbers_from p (1 + n) xs) (numbers_from p (1 + n) xs)) k ≡ k ∷ cond b (n ∷ numbers_from p (1 + n) xs) (numbers_from p (1 + n) xs)) [
        | true ↦ rw (le-ltb n k (omega arith)) refl
        | false ↦ put_lower xs k (1 + n) (omega arith)
      ]

  -- a place that passes both before and after a change, or neither, changes no number
  pub set_same : (xs : List X) (i n : ℕ) (y d : X) → p y ≡ p (get_or xs i d) → numbers_from p n (set xs i y) ≡ numbers_from p n xs
  set_same [] i n y d e = refl
  set_same (x ∷ xs) zero n y d e = rw e refl
  set_same (x ∷ xs) (suc i) n y d e =
      let rest = set_same xs i (1 + n) y d e in
      elim (p x) as (λ b. cond b (n ∷ numbers_from p (1 + n) (set xs i y)) (numbers_from p (1 + n) (set xs i y)) ≡ cond b (n ∷ numbers_from p (1 + n) xs) (numbers_from p (1 + n) xs)) [
        | true ↦ ap (λ ns. n ∷ ns) rest
        | false ↦ rest
      ]

  -- one that passes from now on
  pub set_put : (xs : List X) (i n k : ℕ) (y d : X) → k ≡ n + i → i < length xs → p (get_or xs i d) ≡ false → p y ≡ true
      → numbers_from p n (set xs i y) ≡ put_number (numbers_from p n xs) k
  set_put [] i n k y d e less was is = absurd (omega arith)
  set_put (x ∷ xs) zero n k y d e less was is =
      let here : k ≡ n = omega (arith, e) in
      rw (is, was, here) (sym (put_lower xs n (1 + n) (omega arith)))
  set_put (x ∷ xs) (suc i) n k y d e less was is =
      let rest = set_put xs i (1 + n) k y d (omega (arith, e)) (omega arith) was is in
      elim (p x) as (λ b. cond b (n ∷ numbers_from p (1 + n) (set xs i y)) (numbers_from p (1 + n) (set xs i y)) ≡ put_number (cond b (n ∷ numbers_from p (1 + n) xs) (numbers_from p (1 + n) xs)) k) [
        | true ↦ rw (lt-ltb n k (omega (arith, e))) (ap (λ ns. n ∷ ns) rest)
        | false ↦ rest
      ]

  -- one that no longer passes
  pub set_remove : (xs : List X) (i n k : ℕ) (y d : X) → k ≡ n + i → i < length xs → p (get_or xs i d) ≡ true → p y ≡ false
      → numbers_from p n (set xs i y) ≡ remove_number (numbers_from p n xs) k
  set_remove [] i n k y d e less was is = absurd (omega arith)
  set_remove (x ∷ xs) zero n k y d e less was is =
      let here : k ≡ n = omega (arith, e) in
      rw (is, was, here, eq-eqb n n refl) refl
  set_remove (x ∷ xs) (suc i) n k y d e less was is =
      let rest = set_remove xs i (1 + n) k y d (omega (arith, e)) (omega arith) was is in
      elim (p x) as (λ b. cond b (n ∷ numbers_from p (1 + n) (set xs i y)) (numbers_from p (1 + n) (set xs i y)) ≡ remove_number (cond b (n ∷ numbers_from p (1 + n) xs) (numbers_from p (1 + n) xs)) k) [
        | true ↦ rw (ne_eqb n k (λ same. omega (arith, e, same))) (ap (λ ns. n ∷ ns) rest)
        | false ↦ rest
      ]

  -- ---- how many they are

  pub numbers_many : (xs : List X) (n : ℕ) → length (numbers_from p n xs) ≡ count_by p xs
  numbers_many [] n = refl
  numbers_many (x ∷ xs) n =
      let rest = numbers_many xs (1 + n) in
      elim (p x) as (λ b. count_by p (x ∷ xs) ≡ cond b 1 0 + count_by p xs → length (cond b (n ∷ numbers_from p (1 + n) xs) (numbers_from p (1 + n) xs)) ≡ count_by p (x ∷ xs)) [
        | true ↦ λ count. omega (arith, rest, count)
        | false ↦ λ count. omega (arith, rest, count)
      ] (sum_by-cons (λ y. cond (p y) 1 0) x xs)

  pub numbers_few : (xs : List X) (n : ℕ) → length (numbers_from p n xs) ≤ length xs
  numbers_few xs n = rw (numbers_many xs n) (count_by-le-length p xs)

  -- if one no longer passes, they are one fewer
  pub set_fewer : (xs : List X) (i n : ℕ) (y d : X) → i < length xs → p (get_or xs i d) ≡ true → p y ≡ false
      → length (numbers_from p n xs) ≡ suc (length (numbers_from p n (set xs i y)))
  set_fewer xs i n y d less was is =
      let count = sum_by-set (λ x. cond (p x) 1 0) xs i y d less in
      let one : cond {A = ℕ} (p (get_or xs i d)) 1 0 ≡ 1 = rw was refl in
      let none : cond {A = ℕ} (p y) 1 0 ≡ 0 = rw is refl in
      omega (arith, numbers_many xs n, numbers_many (set xs i y) n, count, one, none)

  pub numbers_fewer : (xs : List X) (i n : ℕ) (d : X) → i < length xs → p (get_or xs i d) ≡ false → length (numbers_from p n xs) < length xs
  numbers_fewer [] i n d less fails = absurd (omega arith)
  numbers_fewer (x ∷ xs) zero n d less fails = (let rest = numbers_few xs (1 + n) in rw fails (omega (arith, rest)))
  numbers_fewer (x ∷ xs) (suc i) n d less fails =
      let rest = numbers_fewer xs i (1 + n) d (omega arith) fails in
      elim (p x) as (λ b. length (cond b (n ∷ numbers_from p (1 + n) xs) (numbers_from p (1 + n) xs)) < suc (length xs)) [
        | true ↦ omega (arith, rest)
        | false ↦ omega (arith, rest)
      ]

  -- ---- what is found

  found : (f : X → Bool) (g : ℕ → Bool) → ((x : X) → f x ≡ true → p x ≡ true) → (d : X) (xs : List X) (n : ℕ) → ((i : ℕ) → i < length xs → g (n + i) ≡ f (get_or xs i d))
      → find g (numbers_from p n xs) ≡ cond (ltb (position_or_len f xs) (length xs)) (Some (n + position_or_len f xs)) None
  found f g has d [] n at = refl
  found f g has d (x ∷ xs) n at =
      let m = position_or_len f xs in
      let here : g n ≡ f x = ap g (omega arith) ∙ at 0 (omega arith) in
      let rest = found f g has d xs (1 + n) (λ i less. ap g (omega arith) ∙ at (suc i) (omega arith)) in
      let later : cond (ltb m (length xs)) (Some (1 + n + m)) None ≡ cond (ltb (1 + m) (suc (length xs))) (Some (n + (1 + m))) None =
      elim (cases_lt m (length xs)) [
        | inl less ↦ rw (lt-ltb m (length xs) less, lt-ltb (1 + m) (suc (length xs)) (omega (arith, less))) (ap Some (omega arith))
        | inr most ↦ rw (le-ltb m (length xs) most, le-ltb (1 + m) (suc (length xs)) (omega (arith, most))) refl
      ] in
      elim (f x) as (λ b. f x ≡ b → find g (numbers_from p n (x ∷ xs)) ≡ cond (ltb (cond (not b) (1 + m) 0) (suc (length xs))) (Some (n + cond (not b) (1 + m) 0)) None) [
        | true ↦ λ e. rw (has x e, here, e, lt-ltb 0 (suc (length xs)) (omega arith)) (ap Some (omega arith))
        | false ↦ λ e. elim (p x) as (λ b. find g (cond b (n ∷ numbers_from p (1 + n) xs) (numbers_from p (1 + n) xs)) ≡ cond (ltb (1 + m) (suc (length xs))) (Some (n + (1 + m))) None) [
          | true ↦ rw (here, e) (rest ∙ later)
          | false ↦ rest ∙ later
        ]
      ] refl

  any_from : (f : X → Bool) (g : ℕ → Bool) → ((x : X) → f x ≡ true → p x ≡ true) → (d : X) (xs : List X) (n : ℕ) → ((i : ℕ) → i < length xs → g (n + i) ≡ f (get_or xs i d))
      → list_any g (numbers_from p n xs) ≡ list_any f xs
  any_from f g has d [] n at = refl
  any_from f g has d (x ∷ xs) n at =
      let here : g n ≡ f x = ap g (omega arith) ∙ at 0 (omega arith) in
      let rest = any_from f g has d xs (1 + n) (λ i less. ap g (omega arith) ∙ at (suc i) (omega arith)) in
      elim (p x) as (λ b. p x ≡ b → list_any g (cond b (n ∷ numbers_from p (1 + n) xs) (numbers_from p (1 + n) xs)) ≡ (f x || list_any f xs)) [
        | true ↦ λ _. rw here (ap (λ b. f x || b) rest)
        | false ↦ λ e. elim (f x) as (λ b. f x ≡ b → list_any g (numbers_from p (1 + n) xs) ≡ (b || list_any f xs)) [
          | true ↦ λ is. absurd (true≢false (sym (has x is) ∙ e))
          | false ↦ λ _. rest
        ] refl
      ] refl

  -- one that passes is found in a list of entries by their numbers
  pub first_found : (f : X → Bool) (g : ℕ → Bool) → ((x : X) → f x ≡ true → p x ≡ true) → (d : X) (xs : List X) (es : List Entry) → ((i : ℕ) → i < length xs → g i ≡ f (get_or xs i d))
      → map (λ e. e.number) es ≡ numbers_from p 0 xs → option_map (λ e. e.number) (find (λ e. g e.number) es) ≡ position f xs
  first_found f g has d xs es at is =
      find_number g es ∙ ap (find g) is ∙ found f g has d xs 0 (λ i less. ap g (omega arith) ∙ at i less)
      ∙ ap (λ n. cond (ltb (position_or_len f xs) (length xs)) (Some n) None) (omega arith)

  pub any_found : (f : X → Bool) (g : ℕ → Bool) → ((x : X) → f x ≡ true → p x ≡ true) → (d : X) (xs : List X) (es : List Entry) → ((i : ℕ) → i < length xs → g i ≡ f (get_or xs i d))
      → map (λ e. e.number) es ≡ numbers_from p 0 xs → list_any (λ e. g e.number) es ≡ list_any f xs
  any_found f g has d xs es at is = any_number g es ∙ ap (list_any g) is ∙ any_from f g has d xs 0 (λ i less. ap g (omega arith) ∙ at i less)

  -- ---- the first of all

  pub first_is : (xs : List X) (n k : ℕ) (ns : List ℕ) → numbers_from p n xs ≡ k ∷ ns → k ≡ n + position_or_len p xs
  first_is [] n k ns e = cc
  first_is (x ∷ xs) n k ns e =
      elim (p x) as (λ b. cond b (n ∷ numbers_from p (1 + n) xs) (numbers_from p (1 + n) xs) ≡ k ∷ ns → k ≡ n + cond (not b) (1 + position_or_len p xs) 0) [
        | true ↦ λ e. (let here : n ≡ k = cc in omega (arith, here))
        | false ↦ λ e. (let rest = first_is xs (1 + n) k ns e in omega (arith, rest))
      ] e

  pub none_is : (xs : List X) (n : ℕ) → numbers_from p n xs ≡ [] → length xs ≡ position_or_len p xs
  none_is [] n e = refl
  none_is (x ∷ xs) n e =
      elim (p x) as (λ b. cond b (n ∷ numbers_from p (1 + n) xs) (numbers_from p (1 + n) xs) ≡ [] → suc (length xs) ≡ cond (not b) (1 + position_or_len p xs) 0) [
        | true ↦ λ e. cc
        | false ↦ λ e. (let rest = none_is xs (1 + n) e in omega (arith, rest))
      ] e
