-- The types of lines that are in order, and lines before and after the first m=.
use Rattle.std.proofs.Common.{◌≡◌, ℕ, Bool, true, false, not, ◌&&◌, cond, List, [], ◌∷◌, ◌++◌, refl, sym, ap, codes}
use Rattle.std.specs.List.{list_all}
use Rattle.std.proofs.lemmas.Bool.{and_parts, true≢false}
use Rattle.text.specs.Class.{is_one_of}
use Rattle.sdp.specs.Classes.{begins}
use Rattle.sdp.specs.Order.{Group, less_one, less_all, begin, is_nothing, is_before, is_after, is_media_after, upto_medium, groups}
use Rattle.sdp.proofs.FrontLaws.{apart, from_less_one, from_less_all, from_nothing}

-- ---- types

pub before_types : (ls : List (List ℕ)) → is_before ls ≡ true → list_all (begins (codes "siuep")) ls ≡ true
unfolding is_before
before_types ls h =
    let all = codes "siuep" in
    let a = less_one (codes "s") ls in
    let b = less_one (codes "i") a in
    let c = less_one (codes "u") b in
    let d = less_all (codes "e") c in
    let nothing = (and_parts (begin (codes "s") ls) (is_nothing (less_all (codes "p") d)) h).1 in
    from_less_one (codes "s") all refl ls (
    from_less_one (codes "i") all refl a (
    from_less_one (codes "u") all refl b (
    from_less_all (codes "e") all refl c (
    from_less_all (codes "p") all refl d (from_nothing all (less_all (codes "p") d) nothing)))))

pub after_types : (ls : List (List ℕ)) → is_after ls ≡ true → list_all (begins (codes "btrzka")) ls ≡ true
unfolding is_after
after_types ls h =
    let all = codes "btrzka" in
    let a = less_all (codes "b") ls in
    let b = less_all (codes "tr") a in
    let c = less_one (codes "z") b in
    let d = less_one (codes "k") c in
    let nothing = (and_parts (begin (codes "t") a) (is_nothing (less_all (codes "a") d)) h).1 in
    from_less_all (codes "b") all refl ls (
    from_less_all (codes "tr") all refl a (
    from_less_one (codes "z") all refl b (
    from_less_one (codes "k") all refl c (
    from_less_all (codes "a") all refl d (from_nothing all (less_all (codes "a") d) nothing)))))

pub media_after_types : (ls : List (List ℕ)) → is_media_after ls ≡ true → list_all (begins (codes "bka")) ls ≡ true
unfolding is_media_after
media_after_types ls h =
    let all = codes "bka" in
    let a = less_all (codes "b") ls in
    let b = less_one (codes "k") a in
    from_less_all (codes "b") all refl ls (
    from_less_one (codes "k") all refl a (
    from_less_all (codes "a") all refl b (from_nothing all (less_all (codes "a") b) h)))

-- ---- the first m=

-- the lines from the first m= on
abbrev pub part : List (List ℕ) → List (List ℕ)
part [] = []
part (line ∷ lines) = cond (begins (codes "m") line) (line ∷ lines) (part lines)

pub upto_joined : (ls : List (List ℕ)) → upto_medium ls ++ part ls ≡ ls
upto_joined [] = refl
upto_joined (l ∷ ls) = step (begins (codes "m") l) (upto_joined ls) where
  step : (e : Bool) → upto_medium ls ++ part ls ≡ ls → cond e [] (l ∷ upto_medium ls) ++ cond e (l ∷ ls) (part ls) ≡ l ∷ ls
  step true more = refl
  step false more = ap (λ (x : List (List ℕ)). l ∷ x) more

-- no line, or a line m= first
abbrev pub is_media_part : List (List ℕ) → Bool
is_media_part [] = true
is_media_part (line ∷ lines) = begins (codes "m") line

abbrev pub no_medium : List (List ℕ) → Bool
no_medium ls = list_all (λ l. not (begins (codes "m") l)) ls

pub no_medium_among : (set : List ℕ) → list_all (λ y. not (is_one_of (codes "m") y)) set ≡ true → (ls : List (List ℕ)) → list_all (begins set) ls ≡ true → no_medium ls ≡ true
no_medium_among set dis [] h = refl
no_medium_among set dis (l ∷ ls) h =
    let parts = and_parts (begins set l) (list_all (begins set) ls) h in
    let other : begins (codes "m") l ≡ false = apart set (codes "m") dis l parts.0 in
    rw other (no_medium_among set dis ls parts.1)

pub upto_again : (xs ys : List (List ℕ)) → no_medium xs ≡ true → is_media_part ys ≡ true → upto_medium (xs ++ ys) ≡ xs
upto_again [] [] h k = refl
upto_again [] (y ∷ ys) h k = rw k refl
upto_again (x ∷ xs) ys h k = step (begins (codes "m") x) h (λ more. upto_again xs ys more k) where
  step : (e : Bool) → (not e && no_medium xs) ≡ true → (no_medium xs ≡ true → upto_medium (xs ++ ys) ≡ xs) → cond e [] (x ∷ upto_medium (xs ++ ys)) ≡ x ∷ xs
  step true m more = absurd (true≢false (sym m))
  step false m more = ap (λ (t : List (List ℕ)). x ∷ t) (more m)

abbrev one_more : List ℕ → List (List ℕ) → List Group → List Group
one_more line under more = record { medium = line; under = under } ∷ more

pub groups_again : (xs ys : List (List ℕ)) → no_medium xs ≡ true → groups (xs ++ ys) ≡ groups ys
groups_again [] ys h = refl
groups_again (x ∷ xs) ys h = step (begins (codes "m") x) h (λ more. groups_again xs ys more) where
  step : (e : Bool) → (not e && no_medium xs) ≡ true → (no_medium xs ≡ true → groups (xs ++ ys) ≡ groups ys) → cond e (one_more x (upto_medium (xs ++ ys)) (groups (xs ++ ys))) (groups (xs ++ ys)) ≡ groups ys
  step true m more = absurd (true≢false (sym m))
  step false m more = more m
