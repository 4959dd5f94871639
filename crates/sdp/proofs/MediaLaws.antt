-- Lines m= and the lines under them: what is found of them is said by them, and what they say is found.
use Rattle.std.proofs.Common.{◌≡◌, ℕ, Bool, true, false, not, cond, List, [], ◌∷◌, ◌++◌, map, Option, Some, None, refl, sym, ap, ◌∙◌, codes}
use Rattle.std.specs.Prelude.{option_map}
use Rattle.std.specs.List.{list_all}
use Rattle.std.proofs.lemmas.Bool.{and_parts, and_from}
use Rattle.std.proofs.lemmas.List.Folds.{list_all-append}
use Rattle.text.specs.Class.{is_one_of}
use Rattle.sdp.specs.Classes.{begins}
use Rattle.sdp.specs.Grammar.{SaysMedium, SaysUnder, SaysMedia}
use Rattle.sdp.specs.Lines.{is_formed, value_on, line_of}
use Rattle.sdp.specs.MediumLines.{raw_medium_of, is_raw_medium}
use Rattle.sdp.specs.Order.{Group, first_of, less_one, upto_medium, groups, is_media_after, is_group}
use Rattle.sdp.specs.Reading.{is_good_connection, is_good_medium, media_of}
use Rattle.sdp.specs.Writing.{line_text, info_lines}
use Rattle.sdp.proofs.FrontLaws.{if_there, one_joined, first_begins, apart}
use Rattle.sdp.proofs.GroupLaws.{formed_lines, typed_line, connection_found}
use Rattle.sdp.proofs.MediumLaws.{raw_found}
use Rattle.sdp.proofs.OrderLaws.{part, upto_joined, no_medium}

-- ---- parts of lists

pub all_parts : {X : Type 0} (p : X → Bool) (xs ys zs : List X) → xs ++ ys ≡ zs → list_all p zs ≡ true → (list_all p xs ≡ true) × (list_all p ys ≡ true)
all_parts p xs ys zs e h = and_parts (list_all p xs) (list_all p ys) (sym (list_all-append p xs ys) ∙ ap (list_all p) e ∙ h)

pub all_joined : {X : Type 0} (p : X → Bool) (xs ys : List X) → list_all p xs ≡ true → list_all p ys ≡ true → list_all p (xs ++ ys) ≡ true
all_joined p xs ys h k = list_all-append p xs ys ∙ and_from _ _ h k

-- a line that is there passes what all pass
pub one_passes : (p : List ℕ → Bool) (o : Option (List ℕ)) → list_all p (if_there o) ≡ true → (l : List ℕ) → o ≡ Some l → p l ≡ true
one_passes p None h l e = absurd cc
one_passes p (Some x) h l e = let same : x ≡ l = cc in ap p (sym same) ∙ (and_parts (p x) true h).0

-- lines of other types than c= and m=
pub others_connect : (set : List ℕ) → list_all (λ y. not (is_one_of (codes "c") y)) set ≡ true → (ls : List (List ℕ)) → list_all (begins set) ls ≡ true → list_all is_good_connection ls ≡ true
others_connect set dis [] h = refl
others_connect set dis (l ∷ ls) h =
    let parts = and_parts (begins set l) (list_all (begins set) ls) h in
    let other : begins (codes "c") l ≡ false = apart set (codes "c") dis l parts.0 in
    rw other (others_connect set dis ls parts.1)

pub others_good : (ls : List (List ℕ)) → no_medium ls ≡ true → list_all is_good_medium ls ≡ true
others_good [] h = refl
others_good (l ∷ ls) h =
    let parts = and_parts (not (begins (codes "m") l)) (no_medium ls) h in
    rw parts.0 (others_good ls parts.1)

-- ---- what is found is said

abbrev group : List ℕ → List (List ℕ) → Group
group l under = record { medium = l; under = under }

medium_form : (l : List ℕ) → begins (codes "m") l ≡ true → is_good_medium l ≡ true → is_raw_medium (raw_medium_of (value_on l)) ≡ true
medium_form l m h = sym (rw m refl) ∙ h

medium_found : (l : List ℕ) (under : List (List ℕ)) → begins (codes "m") l ≡ true → is_good_medium l ≡ true → SaysMedium (value_on l) (media_of (group l under))
unfolding media_of
medium_found l under m h =
    let form = medium_form l m h in
    record { raw = raw_medium_of (value_on l); whole = raw_found (value_on l) form; form = form; kind = refl; port = refl; count = refl; proto = refl; formats = refl }

info_found : (o : Option (List ℕ)) → ((l : List ℕ) → o ≡ Some l → (begins (codes "i") l ≡ true) × (is_formed l ≡ true)) → if_there o ≡ info_lines (option_map value_on o)
info_found None h = refl
info_found (Some l) h = ap (λ (x : List ℕ). x ∷ []) (typed_line 105 l (h l refl).0 (h l refl).1)

under_found : (l : List ℕ) (under : List (List ℕ)) → list_all is_formed under ≡ true → list_all is_good_connection under ≡ true → is_group (group l under) ≡ true → SaysUnder under (media_of (group l under))
unfolding media_of
under_found l under formed good ordered =
    let i = first_of (codes "i") under in
    let rest = less_one (codes "i") under in
    let c = first_of (codes "c") rest in
    let after = less_one (codes "c") rest in
    let one = one_joined (codes "i") under in
    let two = one_joined (codes "c") rest in
    let f1 = all_parts is_formed (if_there i) rest under one formed in
    let f2 = all_parts is_formed (if_there c) after rest two f1.1 in
    let g1 = all_parts is_good_connection (if_there i) rest under one good in
    let g2 = all_parts is_good_connection (if_there c) after rest two g1.1 in
    let same : map line_text (map line_of after) ≡ after = formed_lines after f2.1 in
    let info : if_there i ≡ info_lines (option_map value_on i) = info_found i (λ x e. (first_begins (codes "i") under x e, one_passes is_formed i f1.0 x e)) in
    record {
      connection = if_there c;
      whole = sym one ∙ ap (λ (x : List (List ℕ)). x ++ rest) info ∙ ap (λ (x : List (List ℕ)). info_lines (option_map value_on i) ++ x) (sym two ∙ ap (λ (x : List (List ℕ)). if_there c ++ x) (sym same));
      says_connection = connection_found c (λ x e. (first_begins (codes "c") rest x e, one_passes is_formed c f2.0 x e, one_passes is_good_connection c g2.0 x e));
      after = ap is_media_after same ∙ ordered;
    }

-- the tests that lines passed
pub record Passed (ls : List (List ℕ)) : Type 0 where
  pub formed : list_all is_formed ls ≡ true
  pub connections : list_all is_good_connection ls ≡ true
  pub media : list_all is_good_medium ls ≡ true

pub passed_parts : (xs ys zs : List (List ℕ)) → xs ++ ys ≡ zs → Passed zs → Passed xs × Passed ys
passed_parts xs ys zs e h =
    let f = all_parts is_formed xs ys zs e h.formed in
    let c = all_parts is_good_connection xs ys zs e h.connections in
    let m = all_parts is_good_medium xs ys zs e h.media in
    (record { formed = f.0; connections = c.0; media = m.0 }, record { formed = f.1; connections = c.1; media = m.1 })

abbrev all_groups : Bool → Group → List Group → Bool
all_groups e g gs = list_all is_group (cond e (g ∷ gs) gs)

pub media_found : (ls : List (List ℕ)) → Passed ls → list_all is_group (groups ls) ≡ true → SaysMedia (part ls) (map media_of (groups ls))
media_found [] h ordered = refl
media_found (l ∷ ls) h ordered = step (begins (codes "m") l) refl ordered (λ k. media_found ls tail k) where
  tail : Passed ls
  tail = (passed_parts (l ∷ []) ls (l ∷ ls) refl h).1

  formed : is_formed l ≡ true
  formed = (and_parts (is_formed l) (list_all is_formed ls) h.formed).0

  good : is_good_medium l ≡ true
  good = (and_parts (is_good_medium l) (list_all is_good_medium ls) h.media).0

  step : (e : Bool) → begins (codes "m") l ≡ e → all_groups e (group l (upto_medium ls)) (groups ls) ≡ true → (list_all is_group (groups ls) ≡ true → SaysMedia (part ls) (map media_of (groups ls)))
      → SaysMedia (cond e (l ∷ ls) (part ls)) (map media_of (cond e (group l (upto_medium ls) ∷ groups ls) (groups ls)))
  step false is k more = more k
  step true is k more =
      let parts = and_parts (is_group (group l (upto_medium ls))) (list_all is_group (groups ls)) k in
      let under = (passed_parts (upto_medium ls) (part ls) ls (upto_joined ls) tail).0 in
      let line : l ≡ 109 ∷ 61 ∷ value_on l = typed_line 109 l is formed in (
        part ls,
        record {
          value = value_on l;
          under = upto_medium ls;
          whole = ap (λ (x : List ℕ). x ∷ ls) line ∙ ap (λ (x : List (List ℕ)). (109 ∷ 61 ∷ value_on l) ∷ x) (sym (upto_joined ls));
          says_medium = medium_found l (upto_medium ls) is good;
          says_under = under_found l (upto_medium ls) under.formed under.connections parts.0;
        },
        more parts.1,
      )
