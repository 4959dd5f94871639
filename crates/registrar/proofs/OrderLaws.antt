-- The order of refresh outlasts the numbering by it.
use Rattle.std.proofs.Common.{◌≡◌, ◌&&◌, ◌∙◌, ◌⊎◌, inl, inr, ℕ, ◌+◌, ◌<◌, ◌≤◌, Bool, true, false, cond, List, [], ◌∷◌, find, map, count_by, Option, Some, None, option_map, nat_lt, nat_le, refl, ap, arith}
use Rattle.std.proofs.lemmas.Bool.{lt-leb, le-leb, lt-ltb, le-ltb, ltb-true, leb-true, leb-false}
use Rattle.std.proofs.lemmas.List.Sums.{sum_by-cons}
use Rattle.registrar.specs.declared.binding.Binding.{Binding}
use Rattle.registrar.specs.Registering.{rank, with_number, with_ranks}
use Rattle.registrar.specs.Bound.{is_latest, latest, target_of}

-- ---- counts

head_le : (a b : Bool) → (a ≡ true → b ≡ true) → cond a 1 0 ≤ cond b 1 0
head_le false b imp = omega arith
head_le true true imp = omega arith
head_le true false imp = cc (imp refl)

pub count-cons : {X : Type 0} (p : X → Bool) (x : X) (xs : List X) → count_by p (x ∷ xs) ≡ cond (p x) 1 0 + count_by p xs
count-cons p x xs = sum_by-cons (λ y. cond (p y) 1 0) x xs

pub count_le : (p q : Binding → Bool) (xs : List Binding) → ((x : Binding) → p x ≡ true → q x ≡ true) → count_by p xs ≤ count_by q xs
count_le p q [] imp = omega arith
count_le p q (x ∷ xs) imp =
    let first = head_le (p x) (q x) (imp x) in
    let rest = count_le p q xs imp in
    rw (count-cons p x xs, count-cons q x xs) (omega arith)

-- it is in the list
abbrev pub IsIn : Binding → List Binding → Type 0
IsIn b [] = ⊥
IsIn b (x ∷ xs) = (x ≡ b) ⊎ IsIn b xs

pub count_less : (p q : Binding → Bool) (xs : List Binding) (b : Binding) → ((x : Binding) → p x ≡ true → q x ≡ true) → IsIn b xs → p b ≡ false → q b ≡ true → count_by p xs < count_by q xs
count_less p q [] b imp here fails passes = absurd here
count_less p q (x ∷ xs) b imp (inl is) fails passes =
    let first : cond {A = ℕ} (p x) 1 0 ≡ 0 = rw is (rw fails refl) in
    let second : cond {A = ℕ} (q x) 1 0 ≡ 1 = rw is (rw passes refl) in
    let rest = count_le p q xs imp in
    rw (count-cons p x xs, count-cons q x xs) (omega arith)
count_less p q (x ∷ xs) b imp (inr later) fails passes =
    let first = head_le (p x) (q x) (imp x) in
    let rest = count_less p q xs b imp later fails passes in
    rw (count-cons p x xs, count-cons q x xs) (omega arith)

less_passes : (m n : ℕ) → m ≤ n → (x : Binding) → nat_lt x.refreshed m ≡ true → nat_lt x.refreshed n ≡ true
less_passes m n le x e = let less = ltb-true x.refreshed m e in lt-ltb x.refreshed n (omega arith)

-- of two bindings of the list, the same one was refreshed later by the new numbers
pub same_order : (bs : List Binding) (b c : Binding) → IsIn b bs → nat_le (rank bs c) (rank bs b) ≡ nat_le c.refreshed b.refreshed
same_order bs b c here =
    elim (nat_le c.refreshed b.refreshed) as (λ v. nat_le c.refreshed b.refreshed ≡ v → nat_le (rank bs c) (rank bs b) ≡ v) [
      | true ↦ λ e.
          let le = leb-true c.refreshed b.refreshed e in
          let counts = count_le (λ x. nat_lt x.refreshed c.refreshed) (λ x. nat_lt x.refreshed b.refreshed) bs (less_passes c.refreshed b.refreshed le) in
          le-leb (rank bs c) (rank bs b) (omega arith)
      | false ↦ λ e.
          let less = leb-false c.refreshed b.refreshed e in
          let counts = count_less (λ x. nat_lt x.refreshed b.refreshed) (λ x. nat_lt x.refreshed c.refreshed) bs b (less_passes b.refreshed c.refreshed (omega arith)) here (le-ltb b.refreshed b.refreshed (omega arith)) (lt-ltb b.refreshed c.refreshed less) in
          lt-leb (rank bs c) (rank bs b) (omega arith)
    ] refl

-- ---- the latest

abbrev pub AllIn : List Binding → List Binding → Type 0
AllIn bs [] = Unit {0}
AllIn bs (x ∷ xs) = IsIn x bs × AllIn bs xs

in_longer : (bs : List Binding) (b : Binding) (xs : List Binding) → AllIn bs xs → AllIn (b ∷ bs) xs
in_longer bs b [] h = tt
in_longer bs b (x ∷ xs) h = (inr h.0, in_longer bs b xs h.1)

pub in_itself : (bs : List Binding) → AllIn bs bs
in_itself [] = tt
in_itself (b ∷ bs) = (inl refl, in_longer bs b bs (in_itself bs))

abbrev anew : List Binding → Binding → Binding
anew bs b = with_number (rank bs b) b

same_latest : (bs : List Binding) (x : Binding) (cs : List Binding) → IsIn x bs → is_latest (map (anew bs) cs) (anew bs x) ≡ is_latest cs x
same_latest bs x [] here = refl
same_latest bs x (c ∷ cs) here = rw (same_order bs x c here) (ap (λ b. nat_le c.refreshed x.refreshed && b) (same_latest bs x cs here))

find-anew : (bs ps xs : List Binding) → AllIn bs xs → find (is_latest (map (anew bs) ps)) (map (anew bs) xs) ≡ option_map (anew bs) (find (is_latest ps) xs)
find-anew bs ps [] h = refl
find-anew bs ps (x ∷ xs) h =
    rw (same_latest bs x ps h.0)
    (elim (is_latest ps x) as (λ v. cond v (Some (anew bs x)) (find (is_latest (map (anew bs) ps)) (map (anew bs) xs)) ≡ option_map (anew bs) (cond v (Some x) (find (is_latest ps) xs))) [
      | true ↦ refl
      | false ↦ find-anew bs ps xs h.1
    ])

same_uri : (bs : List Binding) (o : Option Binding) → option_map (λ b. b.uri) (option_map (anew bs) o) ≡ option_map (λ b. b.uri) o
same_uri bs None = refl
same_uri bs (Some b) = refl

-- calls go where they went
pub target-with_ranks : (bs : List Binding) → target_of (with_ranks bs) ≡ target_of bs
unfolding target_of
target-with_ranks bs =
    ap (option_map (λ b. b.uri)) (find-anew bs bs bs (in_itself bs))
    ∙ same_uri bs (latest bs)
