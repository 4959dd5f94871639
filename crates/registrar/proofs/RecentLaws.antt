-- Those that were refreshed last, where the others leave.
use Rattle.std.proofs.Common.{All, ◌≡◌, ◌≢◌, ◌&&◌, ◌||◌, ◌∙◌, ℕ, ◌+◌, ◌≤◌, Bool, true, false, cond, not, List, [], ◌∷◌, length, filter, find, count_by, Some, option_map, nat_lt, nat_le, refl, sym, ap, arith}
use Rattle.std.specs.List.{list_all}
use Rattle.std.proofs.lemmas.Bool.{le-leb, lt-ltb, le-ltb, ltb-true, ltb-false, leb-true, leb-false}
use Rattle.std.proofs.lemmas.List.Elements.{All-filter}
use Rattle.registrar.specs.Limits.{max_bindings}
use Rattle.registrar.specs.declared.binding.Binding.{Binding}
use Rattle.registrar.specs.declared.binding_rules.BindingRules.{BindingRules}
use Rattle.registrar.specs.BindingLaws.{AreApart, OldestLeave, NoneLeaves}
use Rattle.registrar.specs.BindingRules.{later, is_recent, recent, standing}
use Rattle.registrar.specs.Bound.{is_latest, latest, target_of}
use Rattle.registrar.proofs.OrderLaws.{count-cons, count_le}
use Rattle.registrar.proofs.PresentLaws.{list_all-filter, find-filter}

-- ---- none that left was refreshed after one that stayed

later_passes : (m n : ℕ) → m ≤ n → (x : Binding) → nat_lt n x.refreshed ≡ true → nat_lt m x.refreshed ≡ true
later_passes m n le x e = let less = ltb-true n x.refreshed e in lt-ltb m x.refreshed (omega arith)

later_more : (bs : List Binding) (m n : ℕ) → m ≤ n → count_by (λ c. nat_lt n c.refreshed) bs ≤ count_by (λ c. nat_lt m c.refreshed) bs
later_more bs m n le = count_le (λ c. nat_lt n c.refreshed) (λ c. nat_lt m c.refreshed) bs (later_passes m n le)

pub left_before : OldestLeave
left_before bs stays leaves s l =
    elim (nat_le leaves.refreshed stays.refreshed) as (λ v. nat_le leaves.refreshed stays.refreshed ≡ v → leaves.refreshed ≤ stays.refreshed) [
      | true ↦ λ e. leb-true leaves.refreshed stays.refreshed e
      | false ↦ λ e.
          let less = leb-false leaves.refreshed stays.refreshed e in
          let few = ltb-true (later bs stays) max_bindings s in
          let many = ltb-false (later bs leaves) max_bindings l in
          let more = later_more bs stays.refreshed leaves.refreshed (omega arith) in
          absurd (omega arith)
    ] refl

-- ---- calls go where they went

all_same : (p q : Binding → Bool) (bs : List Binding) → ((b : Binding) → p b ≡ q b) → list_all p bs ≡ list_all q bs
all_same p q [] same = refl
all_same p q (b ∷ bs) same = rw (same b) (ap (λ v. q b && v) (all_same p q bs same))

find_same : (p q : Binding → Bool) (bs : List Binding) → ((b : Binding) → p b ≡ q b) → find p bs ≡ find q bs
find_same p q [] same = refl
find_same p q (b ∷ bs) same = rw (same b) (ap (λ o. cond (q b) (Some b) o) (find_same p q bs same))

-- none was refreshed after the latest
none_later : (n : ℕ) (bs : List Binding) → list_all (λ c. nat_le c.refreshed n) bs ≡ true → count_by (λ c. nat_lt n c.refreshed) bs ≡ 0
none_later n [] all = refl
none_later n (b ∷ bs) all =
    rw (count-cons (λ c. nat_lt n c.refreshed) b bs)
    (elim (nat_le b.refreshed n) as (λ v. nat_le b.refreshed n ≡ v → (v && list_all (λ c. nat_le c.refreshed n) bs) ≡ true → cond {A = ℕ} (nat_lt n b.refreshed) 1 0 + count_by (λ c. nat_lt n c.refreshed) bs ≡ 0) [
      | true ↦ λ e rest.
          let le = leb-true b.refreshed n e in
          let others = none_later n bs rest in
          rw (le-ltb n b.refreshed le) (omega arith)
      | false ↦ λ e rest. cc
    ] refl all)

latest_at : (bs : List Binding) (x : Binding) (v : Bool) → is_recent bs x ≡ v → (v && is_latest (recent bs) x) ≡ is_latest bs x
latest_at bs x true r =
    list_all-filter (λ c. nat_le c.refreshed x.refreshed) (is_recent bs) bs
    ∙ all_same (λ c. not (is_recent bs c) || nat_le c.refreshed x.refreshed) (λ c. nat_le c.refreshed x.refreshed) bs
    (λ c. elim (is_recent bs c) as (λ v. is_recent bs c ≡ v → (not v || nat_le c.refreshed x.refreshed) ≡ nat_le c.refreshed x.refreshed) [
      | true ↦ λ e. refl
      | false ↦ λ e. sym (le-leb c.refreshed x.refreshed (left_before bs x c r e))
    ] refl)
latest_at bs x false r =
    elim (is_latest bs x) as (λ v. is_latest bs x ≡ v → false ≡ v) [
      | true ↦ λ e.
          let none = none_later x.refreshed bs e in
          let many = ltb-false (later bs x) max_bindings r in
          absurd (omega arith)
      | false ↦ λ e. refl
    ] refl

latest-recent : (bs : List Binding) → latest (recent bs) ≡ latest bs
latest-recent bs =
    find-filter (is_latest (recent bs)) (is_recent bs) bs
    ∙ find_same (λ x. is_recent bs x && is_latest (recent bs) x) (is_latest bs) bs (λ x. latest_at bs x (is_recent bs x) refl)

pub none_leaves : NoneLeaves
none_leaves rules bs few = rw (le-ltb max_bindings (length bs) few) (either (rules.binding_rules.oldest_leaves))
  where
    either : (v : Bool) → cond (v && false) (recent bs) bs ≡ bs
    either true = refl
    either false = refl

-- what all have, those that remain have
pub standing_all : (P : Binding → Type 0) (rules : BindingRules) (bs : List Binding) → All P bs → All P (standing rules bs)
standing_all P rules bs h =
    elim (rules.oldest_leaves && nat_lt max_bindings (length bs)) as (λ v. All P (cond v (recent bs) bs)) [
      | true ↦ All-filter (is_recent bs) P bs h
      | false ↦ h
    ]

pub apart_filter : (p : Binding → Bool) (bs : List Binding) → AreApart bs → AreApart (filter p bs)
apart_filter p [] h = tt
apart_filter p (b ∷ bs) h =
    elim (p b) as (λ v. AreApart (cond v (b ∷ filter p bs) (filter p bs))) [
      | true ↦ (All-filter p (λ c. c.refreshed ≢ b.refreshed) bs h.0, apart_filter p bs h.1)
      | false ↦ apart_filter p bs h.1
    ]

pub apart-standing : (rules : BindingRules) (bs : List Binding) → AreApart bs → AreApart (standing rules bs)
apart-standing rules bs h =
    elim (rules.oldest_leaves && nat_lt max_bindings (length bs)) as (λ v. AreApart (cond v (recent bs) bs)) [
      | true ↦ apart_filter (is_recent bs) bs h
      | false ↦ h
    ]

pub target-standing : (rules : BindingRules) (bs : List Binding) → target_of (standing rules bs) ≡ target_of bs
unfolding target_of
target-standing rules bs =
    elim (rules.oldest_leaves && nat_lt max_bindings (length bs)) as (λ v. option_map (λ b. b.uri) (latest (cond v (recent bs) bs)) ≡ option_map (λ b. b.uri) (latest bs)) [
      | true ↦ ap (option_map (λ b. b.uri)) (latest-recent bs)
      | false ↦ refl
    ]
