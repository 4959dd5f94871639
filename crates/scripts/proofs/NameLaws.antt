-- The names of users: joined by commas, and cut at them.
use Rattle.std.proofs.Common.{◌≡◌, ◌≢◌, ℕ, Bool, true, false, not, ◌||◌, cond, eqb, List, [], ◌∷◌, length, Some, refl, ap, subst, ◌∙◌, arith}
use Rattle.std.specs.List.{All, list_all, onto_first, join_with_byte}
use Rattle.std.proofs.lemmas.Bool.{and_parts}
use Rattle.std.proofs.lemmas.List.Elements.{All-nil, All-cons}
use Rattle.std.proofs.lemmas.List.Splits.{length-slice_split, slice_split_none, slice_split_at}
use Rattle.text.specs.Cut.{before, after}
use Rattle.text.proofs.CutLaws.{Lacks, Lacks-append, Lacks-from_class}
use Rattle.scripts.specs.Values.{names_of}
use Rattle.scripts.specs.Grammar.{is_name}

-- ---- bytes that a line lacks

pub before_lacks : (c : ℕ) (bs : List ℕ) → Lacks c (before c bs)
before_lacks c [] = tt
before_lacks c (b ∷ bs) = step (eqb b c) refl (before_lacks c bs) where
  step : (e : Bool) → eqb b c ≡ e → Lacks c (before c bs) → Lacks c (cond e [] (b ∷ before c bs))
  step true is h = tt
  step false is h = (is, h)

pub after_lacks : (c d : ℕ) (bs rest : List ℕ) → Lacks c bs → after d bs ≡ Some rest → Lacks c rest
after_lacks c d [] rest h e = absurd cc
after_lacks c d (b ∷ bs) rest h e = step (eqb b d) (after_lacks c d bs rest h.1) e where
  step : (t : Bool) → (after d bs ≡ Some rest → Lacks c rest) → cond t (Some bs) (after d bs) ≡ Some rest → Lacks c rest
  step true more e = subst (λ (t : List ℕ). Lacks c t) (some_is e) h.1 where
    some_is : Some bs ≡ Some rest → bs ≡ rest
    some_is h = cc
  step false more e = more e

all_lack : (c : ℕ) (bs : List ℕ) → Lacks c bs → All (λ b. eqb b c ≡ false) bs
all_lack c [] h = All-nil (λ b. eqb b c ≡ false)
all_lack c (b ∷ bs) h = All-cons (λ x. eqb x c ≡ false) b bs h.0 (all_lack c bs h.1)

-- ---- names that are joined

abbrev is_name_byte : ℕ → Bool
is_name_byte b = not (eqb b 44 || eqb b 10)

name_lacks_comma : (t : List ℕ) → is_name t ≡ true → Lacks 44 t
name_lacks_comma t h = Lacks-from_class is_name_byte 44 refl t h

name_lacks_feed : (t : List ℕ) → is_name t ≡ true → Lacks 10 t
name_lacks_feed t h = Lacks-from_class is_name_byte 10 refl t h

pub names_lack_feed : (users : List (List ℕ)) → list_all is_name users ≡ true → Lacks 10 (join_with_byte 44 users)
names_lack_feed [] h = tt
names_lack_feed (u ∷ []) h = name_lacks_feed u (and_parts (is_name u) true h).0
names_lack_feed (u ∷ v ∷ us) h =
    let parts = and_parts (is_name u) (list_all is_name (v ∷ us)) h in
    Lacks-append 10 u (44 ∷ join_with_byte 44 (v ∷ us)) (name_lacks_feed u parts.0) (refl, names_lack_feed (v ∷ us) parts.1)

-- they are cut where they were joined
pub names_again : (users : List (List ℕ)) → users ≢ [] → list_all is_name users ≡ true → names_of (join_with_byte 44 users) ≡ users
names_again [] some h = absurd (some refl)
names_again (u ∷ []) some h = slice_split_none (λ b. eqb b 44) u (all_lack 44 u (name_lacks_comma u (and_parts (is_name u) true h).0))
names_again (u ∷ v ∷ us) some h =
    let parts = and_parts (is_name u) (list_all is_name (v ∷ us)) h in
    slice_split_at (λ b. eqb b 44) u 44 (join_with_byte 44 (v ∷ us)) (all_lack 44 u (name_lacks_comma u parts.0)) refl
    ∙ ap (λ (ns : List (List ℕ)). u ∷ ns) (names_again (v ∷ us) (λ e. absurd cc) parts.1)

-- ---- names that are cut

pub names_some : (text : List ℕ) → names_of text ≢ []
names_some text none = absurd (omega (arith, ap length none, length-slice_split (λ b. eqb b 44) text))

-- if the text has no line feed, none of them has one, or a comma
pub names_formed : (text : List ℕ) → Lacks 10 text → list_all is_name (names_of text) ≡ true
names_formed [] h = refl
names_formed (b ∷ bs) h = step (eqb b 44) refl (names_of bs) (names_formed bs h.1) where
  step : (e : Bool) → eqb b 44 ≡ e → (ns : List (List ℕ)) → list_all is_name ns ≡ true → list_all is_name (cond e ([] ∷ ns) (onto_first b ns)) ≡ true
  step true is ns all = all
  step false is [] all = rw (is, h.0) refl
  step false is (n ∷ ns) all = rw (is, h.0) all
