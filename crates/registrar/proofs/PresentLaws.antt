-- The bindings that are not over, one by one.
use Rattle.std.proofs.Common.{◌≡◌, ◌&&◌, ◌||◌, not, find, Some, ℕ, ◌<◌, ◌+◌, ◌∙◌, Bool, true, false, cond, List, [], ◌∷◌, ◌++◌, length, get_or, take, map, filter, nat_lt, ap, sym, refl, arith}
use Prim.Native.Nat.{zero, suc}
use Rattle.std.proofs.lemmas.List.{append-nil}
use Rattle.std.proofs.lemmas.List.Elements.{filter_more}
use Rattle.std.specs.List.{list_all, list_any}
use Rattle.registrar.specs.declared.binding.Binding.{Binding}
use Rattle.registrar.specs.Registering.{present}

-- one more, after a change
pub map_more : {X Y : Type 0} (f : X → Y) (xs : List X) (i : ℕ) (x : X) → i < length xs → x ≡ get_or xs i x
    → map f (take (suc i) xs) ≡ map f (take i xs) ++ f x ∷ []
map_more f [] i x within at = absurd (omega arith)
map_more f (y ∷ ys) zero x within at = rw (sym at) refl
map_more f (y ∷ ys) (suc i) x within at = ap (λ zs. f y ∷ zs) (map_more f ys i x (omega arith) at)

-- one more that passes a test
pub one_more : (p : Binding → Bool) (bs : List Binding) (i : ℕ) (b : Binding) → i < length bs → b ≡ get_or bs i b → p b ≡ true
    → filter p (take (i + 1) bs) ≡ filter p (take i bs) ++ b ∷ []
one_more p bs i b within at passes = filter_more p bs i b within ∙ rw (sym at) (rw passes refl)

-- one more that fails it
pub one_less : (p : Binding → Bool) (bs : List Binding) (i : ℕ) (b : Binding) → i < length bs → b ≡ get_or bs i b → p b ≡ false
    → filter p (take (i + 1) bs) ≡ filter p (take i bs)
one_less p bs i b within at fails = filter_more p bs i b within ∙ rw (sym at) (rw fails (append-nil (filter p (take i bs))))

-- one more binding that is not over
pub present_more : (now : ℕ) (bs : List Binding) (i : ℕ) (b : Binding) → i < length bs → b ≡ get_or bs i b → nat_lt now b.expires_at ≡ true
    → present now (take (i + 1) bs) ≡ present now (take i bs) ++ b ∷ []
present_more now bs i b within at lasts = one_more (λ b. nat_lt now b.expires_at) bs i b within at lasts

-- a test of all that pass another test
pub list_all-filter : {X : Type 0} (p q : X → Bool) (xs : List X) → list_all p (filter q xs) ≡ list_all (λ x. not (q x) || p x) xs
list_all-filter p q [] = refl
list_all-filter p q (x ∷ xs) =
    elim (q x) as (λ b. list_all p (cond b (x ∷ filter q xs) (filter q xs)) ≡ ((not b || p x) && list_all (λ y. not (q y) || p y) xs)) [
      | true ↦ ap (λ b. p x && b) (list_all-filter p q xs)
      | false ↦ list_all-filter p q xs
    ]

-- the first that passes two tests
pub find-filter : {X : Type 0} (p q : X → Bool) (xs : List X) → find p (filter q xs) ≡ find (λ x. q x && p x) xs
find-filter p q [] = refl
find-filter p q (x ∷ xs) =
    elim (q x) as (λ b. find p (cond b (x ∷ filter q xs) (filter q xs)) ≡ cond (b && p x) (Some x) (find (λ y. q y && p y) xs)) [
      | true ↦ ap (λ o. cond (p x) (Some x) o) (find-filter p q xs)
      | false ↦ find-filter p q xs
    ]

-- whether any that passes a test passes another
pub list_any-filter : {X : Type 0} (p q : X → Bool) (xs : List X) → list_any p (filter q xs) ≡ list_any (λ x. q x && p x) xs
list_any-filter p q [] = refl
list_any-filter p q (x ∷ xs) =
    elim (q x) as (λ b. list_any p (cond b (x ∷ filter q xs) (filter q xs)) ≡ ((b && p x) || list_any (λ y. q y && p y) xs)) [
      | true ↦ ap (λ b. p x || b) (list_any-filter p q xs)
      | false ↦ list_any-filter p q xs
    ]
