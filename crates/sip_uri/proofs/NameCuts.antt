-- The parts that a name and an address are cut into spell it.
use Rattle.std.proofs.Common.{◌≡◌, ℕ, Bool, true, false, ◌||◌, cond, eqb, inl, inr, List, [], ◌∷◌, ◌++◌, Option, Some, None, refl, sym, ap, subst, ◌∙◌, append_assoc}
use Rattle.std.specs.Prelude.{is_some}
use Rattle.std.specs.List.{list_all}
use Rattle.std.proofs.lemmas.Bool.{and_from, and_parts, eqb-true}
use Rattle.std.proofs.lemmas.List.Folds.{list_all-append}
use Rattle.text.specs.Class.{is_blank}
use Rattle.text.specs.Cut.{before, after, led_by}
use Rattle.text.specs.Trim.{without_blanks, without_end, trimmed}
use Rattle.text.proofs.CutLaws.{joined}
use Rattle.text.proofs.Lists.{some_then}
use Rattle.sip_uri.specs.Quoted.{quoted, fits_quotes}
use Rattle.sip_uri.specs.NameParts.{RawName, is_phrase_byte, phrase_of, with_params, bracketed, opened, quoted_name, worded_name, bare, name_from, name_of}
use Rattle.sip_uri.specs.NameAddr.{Closes, IsQuotedName, IsWordedName, IsBareName, SpellsName}
use Rattle.sip_uri.proofs.BlankLaws.{lead_of, skipped}
use Rattle.sip_uri.proofs.QuotedLaws.{quoted_is}

-- the value of a step that did not fail

abbrev some : RawName → Option RawName
some r = Some r

raw_is : (a b : RawName) → some a ≡ some b → a ≡ b
raw_is a b h = cc

passed : (e : Bool) (o : Option RawName) (r : RawName) → cond e o None ≡ Some r → (e ≡ true) × (o ≡ Some r)
passed true o r h = (refl, h)
passed false o r h = absurd cc

-- ---- in angle brackets

record Angled (display : Option (List ℕ)) (text : List ℕ) (r : RawName) : Type 0 where
  rest : List ℕ
  whole : text ≡ r.uri ++ 62 ∷ rest
  closes : Closes rest r.params
  display_is : r.display ≡ display
  in_angles : r.in_angles ≡ true

abbrev angled : Option (List ℕ) → List ℕ → Option (List ℕ) → RawName
angled display uri params = record { display = display; uri = uri; in_angles = true; params = params }

closes_at : (rest : List ℕ) (params : Option (List ℕ)) → without_blanks rest ≡ led_by 59 params → Closes rest params
closes_at rest params h =
    let l = lead_of rest in
    record { gap = l.lead; blank = l.blank; whole = l.whole ∙ ap (λ (x : List ℕ). l.lead ++ x) h }

with_params_is : (display : Option (List ℕ)) (uri text : List ℕ) (r : RawName) → with_params display uri text ≡ Some r → (o : Option (List ℕ)) × (angled display uri o ≡ r) × (text ≡ led_by 59 o)
with_params_is display uri [] r h = (None, raw_is (angled display uri None) r h, refl)
with_params_is display uri (b ∷ bs) r h = step (eqb b 59) (λ e. eqb-true b 59 e) h where
  step : (e : Bool) → (e ≡ true → b ≡ 59) → cond e (Some (angled display uri (Some bs))) None ≡ Some r → (o : Option (List ℕ)) × (angled display uri o ≡ r) × (b ∷ bs ≡ led_by 59 o)
  step true same k = (Some bs, raw_is (angled display uri (Some bs)) r k, ap (λ (x : ℕ). x ∷ bs) (same refl))
  step false same k = absurd cc

bracketed_is : (display : Option (List ℕ)) (text : List ℕ) (r : RawName) → bracketed display text ≡ Some r → Angled display text r
unfolding bracketed
bracketed_is display text r h =
    let p = some_then (after 62 text) _ r h in
    let q = with_params_is display (before 62 text) (without_blanks p.0) r p.2 in
    let whole : text ≡ before 62 text ++ 62 ∷ p.0 = sym (joined 62 text) ∙ ap (λ (o : Option (List ℕ)). before 62 text ++ led_by 62 o) p.1 in
    subst (λ (x : RawName). Angled display text x) q.1 (record { rest = p.0; whole = whole; closes = closes_at p.0 q.0 q.2; display_is = refl; in_angles = refl })

opened_is : (display : Option (List ℕ)) (text : List ℕ) (r : RawName) → opened display text ≡ Some r → (t : List ℕ) × (text ≡ 60 ∷ t) × Angled display t r
unfolding opened
opened_is display [] r h = absurd cc
opened_is display (b ∷ bs) r h =
    let p = passed (eqb b 60) (bracketed display bs) r h in
    (bs, ap (λ (x : ℕ). x ∷ bs) (eqb-true b 60 p.0), bracketed_is display bs r p.1)

-- ---- the three forms, after the leading blanks

quoted_form : (lead text : List ℕ) (r : RawName) → list_all is_blank lead ≡ true → quoted_name text ≡ Some r → IsQuotedName (lead ++ 34 ∷ text) r
unfolding quoted_name
quoted_form lead text r blank h =
    let q = some_then (quoted text) _ r h in
    let p = passed (fits_quotes false q.0.0) (opened (Some q.0.0) (without_blanks q.0.1)) r q.2 in
    let o = opened_is (Some q.0.0) (without_blanks q.0.1) r p.1 in
    let a = o.2 in
    let l = lead_of q.0.1 in
    let back : q.0.1 ≡ l.lead ++ 60 ∷ (r.uri ++ 62 ∷ a.rest) = l.whole ∙ ap (λ (x : List ℕ). l.lead ++ x) (o.1 ∙ ap (λ (x : List ℕ). 60 ∷ x) a.whole) in
    record {
      lead = lead;
      inside = q.0.0;
      gap = l.lead;
      rest = a.rest;
      whole = ap (λ (x : List ℕ). lead ++ 34 ∷ x) (quoted_is text q.0 q.1 ∙ ap (λ (x : List ℕ). q.0.0 ++ 34 ∷ x) back);
      lead_blank = blank;
      gap_blank = l.blank;
      fits = p.0;
      closes = a.closes;
      display = a.display_is;
      in_angles = a.in_angles;
    }

blank_is_phrase : (t : List ℕ) → list_all is_blank t ≡ true → list_all is_phrase_byte t ≡ true
blank_is_phrase t h = all_weaker t h where
  or_true : (e : Bool) → (e || true) ≡ true
  or_true true = refl
  or_true false = refl

  all_weaker : (t : List ℕ) → list_all is_blank t ≡ true → list_all is_phrase_byte t ≡ true
  all_weaker [] h = refl
  all_weaker (b ∷ bs) h =
      let parts = and_parts (is_blank b) (list_all is_blank bs) h in
      and_from _ _ (rw parts.0 (or_true _)) (all_weaker bs parts.1)

phrase_behind : (lead front : List ℕ) → list_all is_blank lead ≡ true → phrase_of (lead ++ front) ≡ phrase_of front
phrase_behind lead front h = let same : trimmed (lead ++ front) ≡ trimmed front = ap without_end (skipped lead front h) in rw same refl

worded_form : (lead text : List ℕ) (r : RawName) → list_all is_blank lead ≡ true → worded_name text ≡ Some r → IsWordedName (lead ++ text) r
unfolding worded_name
worded_form lead text r blank h =
    let q = some_then (after 60 text) _ r h in
    let front : List ℕ = before 60 text in
    let p = passed (list_all is_phrase_byte front) (bracketed (phrase_of front) q.0) r q.2 in
    let a = bracketed_is (phrase_of front) q.0 r p.1 in
    let whole : text ≡ front ++ 60 ∷ (r.uri ++ 62 ∷ a.rest) =
    sym (joined 60 text) ∙ ap (λ (o : Option (List ℕ)). front ++ led_by 60 o) q.1 ∙ ap (λ (x : List ℕ). front ++ 60 ∷ x) a.whole in
    record {
      front = lead ++ front;
      rest = a.rest;
      whole = ap (λ (x : List ℕ). lead ++ x) whole ∙ sym (append_assoc lead front (60 ∷ (r.uri ++ 62 ∷ a.rest)));
      words = list_all-append is_phrase_byte lead front ∙ and_from _ _ (blank_is_phrase lead blank) p.0;
      closes = a.closes;
      display = a.display_is ∙ sym (phrase_behind lead front blank);
      in_angles = a.in_angles;
    }

bare_form : (lead text : List ℕ) → list_all is_blank lead ≡ true → IsBareName (lead ++ text) (bare text)
bare_form lead text blank = record {
  written = lead ++ before 59 text;
  whole = ap (λ (x : List ℕ). lead ++ x) (sym (joined 59 text)) ∙ sym (append_assoc lead (before 59 text) (led_by 59 (after 59 text)));
  uri = ap without_end (sym (skipped lead (before 59 text) blank));
  display = refl;
  in_angles = refl;
}

bare_is : (lead text : List ℕ) (r : RawName) → list_all is_blank lead ≡ true → some (bare text) ≡ some r → SpellsName (lead ++ text) r
bare_is lead text r blank h = subst (λ (x : RawName). SpellsName (lead ++ text) x) (raw_is (bare text) r h) (inr (inr (bare_form lead text blank)))

from_is : (lead text : List ℕ) (r : RawName) → list_all is_blank lead ≡ true → name_from text ≡ Some r → SpellsName (lead ++ text) r
unfolding name_from
from_is lead [] r blank h = bare_is lead [] r blank h
from_is lead (b ∷ bs) r blank h = step (eqb b 34) (is_some (after 60 (before 59 (b ∷ bs)))) (λ e. eqb-true b 34 e) h where
  step : (e f : Bool) → (e ≡ true → b ≡ 34) → cond e (quoted_name bs) (cond f (worded_name (b ∷ bs)) (Some (bare (b ∷ bs)))) ≡ Some r → SpellsName (lead ++ b ∷ bs) r
  step true f same k = subst (λ (x : ℕ). SpellsName (lead ++ x ∷ bs) r) (sym (same refl)) (inl (quoted_form lead bs r blank k))
  step false true same k = inr (inl (worded_form lead (b ∷ bs) r blank k))
  step false false same k = bare_is lead (b ∷ bs) r blank k

-- the parts that a text is cut into spell it
pub name_is : (text : List ℕ) (r : RawName) → name_of text ≡ Some r → SpellsName text r
unfolding name_of
name_is text r h =
    let l = lead_of text in
    subst (λ (t : List ℕ). SpellsName t r) (sym l.whole) (from_is l.lead (without_blanks text) r l.blank h)
