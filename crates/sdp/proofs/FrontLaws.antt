-- Lines at the front that are of some types: cut off, and put back.
use Rattle.std.proofs.Common.{◌≡◌, ℕ, Bool, true, false, not, cond, eqb, inl, inr, List, [], ◌∷◌, ◌++◌, Option, Some, None, refl, sym, ap, ◌∙◌}
use Rattle.std.specs.List.{list_all}
use Rattle.std.proofs.lemmas.Bool.{and_parts, or_cases, eqb-true, true≢false}
use Rattle.std.proofs.lemmas.List.{nil_from_length}
use Rattle.text.specs.Class.{is_one_of}
use Rattle.sdp.specs.Classes.{begins}
use Rattle.sdp.specs.Order.{first_of, less_one, front_of, less_all, begin, is_nothing}

-- a line, or none
abbrev pub if_there : Option (List ℕ) → List (List ℕ)
if_there None = []
if_there (Some line) = line ∷ []

-- ---- cut off and put back

pub front_joined : (set : List ℕ) (ls : List (List ℕ)) → front_of set ls ++ less_all set ls ≡ ls
front_joined set [] = refl
front_joined set (l ∷ ls) = step (begins set l) (front_joined set ls) where
  step : (e : Bool) → front_of set ls ++ less_all set ls ≡ ls → cond e (l ∷ front_of set ls) [] ++ cond e (less_all set ls) (l ∷ ls) ≡ l ∷ ls
  step true more = ap (λ (x : List (List ℕ)). l ∷ x) more
  step false more = refl

pub one_joined : (set : List ℕ) (ls : List (List ℕ)) → if_there (first_of set ls) ++ less_one set ls ≡ ls
one_joined set [] = refl
one_joined set (l ∷ ls) = step (begins set l) where
  step : (e : Bool) → if_there (cond e (Some l) None) ++ cond e ls (l ∷ ls) ≡ l ∷ ls
  step true = refl
  step false = refl

-- the line that is of these types is
pub first_begins : (set : List ℕ) (ls : List (List ℕ)) (l : List ℕ) → first_of set ls ≡ Some l → begins set l ≡ true
first_begins set [] l h = absurd cc
first_begins set (x ∷ xs) l h = step (begins set x) refl h where
  step : (e : Bool) → begins set x ≡ e → cond e (Some x) None ≡ Some l → begins set l ≡ true
  step true is k = let same : x ≡ l = cc in ap (begins set) (sym same) ∙ is
  step false is k = absurd cc

-- ---- put together and cut

pub front_again : (set : List ℕ) (xs ys : List (List ℕ)) → list_all (begins set) xs ≡ true → begin set ys ≡ false → front_of set (xs ++ ys) ≡ xs
front_again set [] [] h k = refl
front_again set [] (y ∷ ys) h k = rw k refl
front_again set (x ∷ xs) ys h k =
    let parts = and_parts (begins set x) (list_all (begins set) xs) h in
    rw parts.0 (ap (λ (t : List (List ℕ)). x ∷ t) (front_again set xs ys parts.1 k))

pub less_all_again : (set : List ℕ) (xs ys : List (List ℕ)) → list_all (begins set) xs ≡ true → begin set ys ≡ false → less_all set (xs ++ ys) ≡ ys
less_all_again set [] [] h k = refl
less_all_again set [] (y ∷ ys) h k = rw k refl
less_all_again set (x ∷ xs) ys h k =
    let parts = and_parts (begins set x) (list_all (begins set) xs) h in
    rw parts.0 (less_all_again set xs ys parts.1 k)

pub no_first : (set : List ℕ) (ys : List (List ℕ)) → begin set ys ≡ false → first_of set ys ≡ None
no_first set [] k = refl
no_first set (y ∷ ys) k = rw k refl

pub none_less : (set : List ℕ) (ys : List (List ℕ)) → begin set ys ≡ false → less_one set ys ≡ ys
none_less set [] k = refl
none_less set (y ∷ ys) k = rw k refl

-- ---- types among others

-- each byte of a set passes what all of it passes
one_passes : (q : ℕ → Bool) (set : List ℕ) (b : ℕ) → list_all q set ≡ true → is_one_of set b ≡ true → q b ≡ true
one_passes q [] b h k = absurd (true≢false (sym k))
one_passes q (y ∷ set) b h k =
    let parts = and_parts (q y) (list_all q set) h in
    elim (or_cases (eqb y b) (is_one_of set b) k) [
      | inl e ↦ ap q (sym (eqb-true y b e)) ∙ parts.0
      | inr e ↦ one_passes q set b parts.1 e
    ]

-- types that are among others
pub among : (set all : List ℕ) → list_all (is_one_of all) set ≡ true → (l : List ℕ) → begins set l ≡ true → begins all l ≡ true
among set all sub [] h = h
among set all sub (b ∷ bs) h = one_passes (is_one_of all) set b sub h

not-true : (b : Bool) → not b ≡ true → b ≡ false
not-true true h = absurd cc
not-true false h = refl

-- types that are not among others
pub apart : (set others : List ℕ) → list_all (λ y. not (is_one_of others y)) set ≡ true → (l : List ℕ) → begins set l ≡ true → begins others l ≡ false
apart set others dis [] h = refl
apart set others dis (b ∷ bs) h = not-true (is_one_of others b) (one_passes (λ y. not (is_one_of others y)) set b dis h)

-- lines of types that are not among others
pub begin_apart : (set others : List ℕ) → list_all (λ y. not (is_one_of others y)) set ≡ true → (ls : List (List ℕ)) → list_all (begins set) ls ≡ true → begin others ls ≡ false
begin_apart set others dis [] h = refl
begin_apart set others dis (l ∷ ls) h = apart set others dis l (and_parts (begins set l) (list_all (begins set) ls) h).0

-- ---- if what is left is of these types, all is

pub from_less_one : (set all : List ℕ) → list_all (is_one_of all) set ≡ true → (ls : List (List ℕ)) → list_all (begins all) (less_one set ls) ≡ true → list_all (begins all) ls ≡ true
from_less_one set all sub [] h = refl
from_less_one set all sub (l ∷ ls) h = step (begins set l) refl h where
  step : (e : Bool) → begins set l ≡ e → list_all (begins all) (cond e ls (l ∷ ls)) ≡ true → list_all (begins all) (l ∷ ls) ≡ true
  step true is k = rw (among set all sub l is) k
  step false is k = k

pub from_less_all : (set all : List ℕ) → list_all (is_one_of all) set ≡ true → (ls : List (List ℕ)) → list_all (begins all) (less_all set ls) ≡ true → list_all (begins all) ls ≡ true
from_less_all set all sub [] h = refl
from_less_all set all sub (l ∷ ls) h = step (begins set l) refl h (λ k. from_less_all set all sub ls k) where
  step : (e : Bool) → begins set l ≡ e → list_all (begins all) (cond e (less_all set ls) (l ∷ ls)) ≡ true → (list_all (begins all) (less_all set ls) ≡ true → list_all (begins all) ls ≡ true) → list_all (begins all) (l ∷ ls) ≡ true
  step true is k more = rw (among set all sub l is) (more k)
  step false is k more = k

pub from_nothing : (all : List ℕ) (ls : List (List ℕ)) → is_nothing ls ≡ true → list_all (begins all) ls ≡ true
from_nothing all ls h = ap (list_all (begins all)) (nil_from_length ls (eqb-true _ _ h))
