-- As many remain as a user may have, where the oldest are dropped.
use Rattle.std.proofs.Common.{◌≡◌, ◌≢◌, ◌∙◌, ℕ, ◌+◌, ◌-◌, ◌<◌, ◌≤◌, Bool, true, false, cond, List, [], ◌∷◌, length, count_by, All, nat_lt, refl, ap, arith}
use Prim.Native.Nat.{zero, suc}
use Rattle.std.proofs.lemmas.Bool.{lt-ltb, le-ltb, ltb-true, ltb-false}
use Rattle.std.proofs.lemmas.List.Elements.{All-head, All-tail, All-nil, All-cons}
use Rattle.std.proofs.lemmas.List.Sums.{length-filter}
use Rattle.registrar.specs.Limits.{max_bindings}
use Rattle.registrar.specs.declared.binding.Binding.{Binding}
use Rattle.registrar.specs.BindingRules.{later, is_recent}
use Rattle.registrar.specs.BindingLaws.{AreApart, EightStand}
use Rattle.registrar.proofs.OrderLaws.{count-cons, count_less, IsIn, AllIn, in_itself}

-- no two have one value
abbrev ApartBy : (Binding → ℕ) → List Binding → Type 0
ApartBy f [] = Unit {0}
ApartBy f (b ∷ bs) = All (λ c. f c ≢ f b) bs × ApartBy f bs

-- how many have a value below this
abbrev below : (Binding → ℕ) → ℕ → List Binding → ℕ
below f k bs = count_by (λ b. nat_lt (f b) k) bs

below-cons : (f : Binding → ℕ) (k : ℕ) (b : Binding) (bs : List Binding) → below f k (b ∷ bs) ≡ cond (nat_lt (f b) k) 1 0 + below f k bs
below-cons f k b bs = count-cons (λ c. nat_lt (f c) k) b bs

-- none has this value
none_at : (f : Binding → ℕ) (k : ℕ) (bs : List Binding) → All (λ c. f c ≢ k) bs → below f (k + 1) bs ≤ below f k bs
none_at f k [] h = omega arith
none_at f k (b ∷ bs) h =
    let rest = none_at f k bs (All-tail (λ c. f c ≢ k) b bs h) in
    let other : f b ≢ k = All-head (λ c. f c ≢ k) b bs h in
    rw (below-cons f (k + 1) b bs, below-cons f k b bs)
    (elim (nat_lt (f b) k) as (λ v. nat_lt (f b) k ≡ v → cond {A = ℕ} (nat_lt (f b) (k + 1)) 1 0 + below f (k + 1) bs ≤ cond {A = ℕ} v 1 0 + below f k bs) [
      | true ↦ λ e.
          let less = ltb-true (f b) k e in
          let one : cond {A = ℕ} (nat_lt (f b) (k + 1)) 1 0 ≡ 1 = rw (lt-ltb (f b) (k + 1) (omega arith)) refl in
          omega arith
      | false ↦ λ e.
          let more = ltb-false (f b) k e in
          let above : k + 1 ≤ f b = not_less (f b) k other more in
          let none : cond {A = ℕ} (nat_lt (f b) (k + 1)) 1 0 ≡ 0 = rw (le-ltb (f b) (k + 1) above) refl in
          omega arith
    ] refl)
  where
    not_less : (m n : ℕ) → m ≢ n → n ≤ m → n + 1 ≤ m
    not_less m n differ le =
        elim (nat_lt n m) as (λ v. nat_lt n m ≡ v → n + 1 ≤ m) [
          | true ↦ λ e. let less = ltb-true n m e in omega arith
          | false ↦ λ e. let same = ltb-false n m e in absurd (differ (omega arith))
        ] refl

-- one at most has this value
one_at : (f : Binding → ℕ) (k : ℕ) (bs : List Binding) → ApartBy f bs → below f (k + 1) bs ≤ below f k bs + 1
one_at f k [] h = omega arith
one_at f k (b ∷ bs) h =
    rw (below-cons f (k + 1) b bs, below-cons f k b bs)
    (elim (nat_lt (f b) k) as (λ v. nat_lt (f b) k ≡ v → cond {A = ℕ} (nat_lt (f b) (k + 1)) 1 0 + below f (k + 1) bs ≤ cond {A = ℕ} v 1 0 + below f k bs + 1) [
      | true ↦ λ e.
          let rest = one_at f k bs h.1 in
          let small = at_most_one (nat_lt (f b) (k + 1)) in
          omega arith
      | false ↦ λ e. let next = by_next (nat_lt (f b) (k + 1)) refl (ltb-false (f b) k e) (one_at f k bs h.1) in omega arith
    ] refl)
  where
    at_most_one : (v : Bool) → cond {A = ℕ} v 1 0 ≤ 1
    at_most_one true = omega arith
    at_most_one false = omega arith

    by_next : (v : Bool) → nat_lt (f b) (k + 1) ≡ v → k ≤ f b → below f (k + 1) bs ≤ below f k bs + 1 → cond {A = ℕ} v 1 0 + below f (k + 1) bs ≤ below f k bs + 1
    by_next true e le others =
        let less = ltb-true (f b) (k + 1) e in
        let same : f b ≡ k = omega arith in
        let rest = none_at f k bs (rw same at h.0) in
        omega arith
    by_next false e le others = omega arith

some_more : (f : Binding → ℕ) (k m : ℕ) (bs : List Binding) → ApartBy f bs → below f (k + m) bs ≤ below f k bs + m
some_more f k zero bs h = let same : k + 0 ≡ k = omega arith in rw same (omega arith)
some_more f k (suc m) bs h =
    let rest = some_more f k m bs h in
    let next = one_at f (k + m) bs h in
    let same : k + suc m ≡ k + m + 1 = omega arith in
    rw same (omega arith)

none_below : (f : Binding → ℕ) (bs : List Binding) → below f 0 bs ≡ 0
none_below f [] = refl
none_below f (b ∷ bs) = rw (below-cons f 0 b bs, le-ltb (f b) 0 (omega arith)) (let rest = none_below f bs in omega arith)

-- ---- how many were refreshed after one of the list

all_count : (bs : List Binding) → count_by (λ c. true) bs ≡ length bs
all_count [] = refl
all_count (b ∷ bs) = rw (count-cons (λ c. true) b bs) (let rest = all_count bs in omega arith)

later_few : (bs : List Binding) (b : Binding) → IsIn b bs → later bs b < length bs
later_few bs b here =
    let less = count_less (λ c. nat_lt b.refreshed c.refreshed) (λ c. true) bs b (λ x e. refl) here (le-ltb b.refreshed b.refreshed (omega arith)) refl in
    let all = all_count bs in
    omega arith

all_below : (bs xs : List Binding) → AllIn bs xs → below (later bs) (length bs) xs ≡ length xs
all_below bs [] h = refl
all_below bs (x ∷ xs) h =
    rw (below-cons (later bs) (length bs) x xs, lt-ltb (later bs x) (length bs) (later_few bs x h.0))
    (let rest = all_below bs xs h.1 in omega arith)

later_less : (bs : List Binding) (b c : Binding) → IsIn c bs → b.refreshed < c.refreshed → later bs c < later bs b
later_less bs b c here less =
    count_less (λ x. nat_lt c.refreshed x.refreshed) (λ x. nat_lt b.refreshed x.refreshed) bs c
    (λ x e. let more = ltb-true c.refreshed x.refreshed e in lt-ltb b.refreshed x.refreshed (omega arith))
    here (le-ltb c.refreshed c.refreshed (omega arith)) (lt-ltb b.refreshed c.refreshed less)

later_differs : (bs : List Binding) (b c : Binding) → IsIn b bs → IsIn c bs → c.refreshed ≢ b.refreshed → later bs c ≢ later bs b
later_differs bs b c b_in c_in differ =
    elim (nat_lt b.refreshed c.refreshed) as (λ v. nat_lt b.refreshed c.refreshed ≡ v → later bs c ≢ later bs b) [
      | true ↦ λ e same. let less = later_less bs b c c_in (ltb-true b.refreshed c.refreshed e) in absurd (omega arith)
      | false ↦ λ e. elim (nat_lt c.refreshed b.refreshed) as (λ v. nat_lt c.refreshed b.refreshed ≡ v → later bs c ≢ later bs b) [
        | true ↦ λ f same. let less = later_less bs c b b_in (ltb-true c.refreshed b.refreshed f) in absurd (omega arith)
        | false ↦ λ f same.
            let le = ltb-false b.refreshed c.refreshed e in
            let ge = ltb-false c.refreshed b.refreshed f in
            absurd (differ (omega arith))
      ] refl
    ] refl

all_differ : (bs : List Binding) (b : Binding) (xs : List Binding) → IsIn b bs → AllIn bs xs → All (λ c. c.refreshed ≢ b.refreshed) xs → All (λ c. later bs c ≢ later bs b) xs
all_differ bs b [] here h apart = All-nil (λ c. later bs c ≢ later bs b)
all_differ bs b (x ∷ xs) here h apart =
    All-cons (λ c. later bs c ≢ later bs b) x xs
    (later_differs bs b x here h.0 (All-head (λ c. c.refreshed ≢ b.refreshed) x xs apart))
    (all_differ bs b xs here h.1 (All-tail (λ c. c.refreshed ≢ b.refreshed) x xs apart))

later_apart : (bs xs : List Binding) → AllIn bs xs → AreApart xs → ApartBy (later bs) xs
later_apart bs [] h apart = tt
later_apart bs (x ∷ xs) h apart = (all_differ bs x xs h.0 h.1 apart.0, later_apart bs xs h.1 apart.1)

-- ---- eight

pub eight_stand : EightStand
eight_stand bs apart enough =
    let by = later_apart bs bs (in_itself bs) apart in
    let few = some_more (later bs) 0 max_bindings bs by in
    let none = none_below (later bs) bs in
    let more = some_more (later bs) max_bindings (length bs - max_bindings) bs by in
    let same : max_bindings + (length bs - max_bindings) ≡ length bs = omega arith in
    let all : below (later bs) (max_bindings + (length bs - max_bindings)) bs ≡ length bs = ap (λ k. below (later bs) k bs) same ∙ all_below bs bs (in_itself bs) in
    length-filter (is_recent bs) bs
    ∙ exactly (below (later bs) max_bindings bs) (below (later bs) (max_bindings + (length bs - max_bindings)) bs) (length bs) (omega (arith, few, none)) more all enough
  where
    exactly : (n all l : ℕ) → n ≤ 8 → all ≤ n + (l - 8) → all ≡ l → 8 ≤ l → n ≡ 8
    exactly n all l few more same enough = omega arith
