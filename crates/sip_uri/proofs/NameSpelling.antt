-- A text that is spelled by parts is cut into them.
use Rattle.std.proofs.Common.{◌≡◌, ℕ, Bool, true, false, not, ◌||◌, inl, inr, List, [], ◌∷◌, ◌++◌, codes, Option, Some, None, refl, sym, ap, subst, ◌∙◌}
use Rattle.std.specs.Prelude.{IsTrue, is_some}
use Rattle.std.specs.List.{list_all}
use Rattle.text.specs.Class.{is_blank, is_one_of}
use Rattle.text.specs.Cut.{before, after, led_by}
use Rattle.text.specs.Trim.{without_blanks, without_end, trimmed}
use Rattle.text.proofs.CutLaws.{Lacks, Lacks-from_class, before_at, after_at, after_none}
use Rattle.sip_uri.specs.RawUri.{RawUri}
use Rattle.sip_uri.specs.Grammar.{Spells}
use Rattle.sip_uri.specs.NameParts.{RawName, is_phrase_byte, phrase_of, with_params, bracketed, opened, quoted_name, worded_name, bare, name_from, name_of, stands_well}
use Rattle.sip_uri.specs.NameAddr.{Closes, IsQuotedName, IsWordedName, IsBareName, SpellsName}
use Rattle.sip_uri.proofs.BlankLaws.{skipped, skipped_before, skipped_before_part, skipped_again, all_without_blanks, Lacks-without_blanks, Lacks-from_trimmed}
use Rattle.sip_uri.proofs.QuotedLaws.{quoted_at}
use Rattle.sip_uri.proofs.UriBytes.{lacks_quote, lacks_opening, lacks_closing}

abbrev angled : Option (List ℕ) → List ℕ → Option (List ℕ) → RawName
angled display uri params = record { display = display; uri = uri; in_angles = true; params = params }

angled_is : (r : RawName) (display : Option (List ℕ)) → r.display ≡ display → r.in_angles ≡ true → angled display r.uri r.params ≡ r
angled_is r display d a = rw (sym d, sym a) refl

params_again : (display : Option (List ℕ)) (uri rest : List ℕ) (o : Option (List ℕ)) → Closes rest o → with_params display uri (without_blanks rest) ≡ Some (angled display uri o)
params_again display uri rest o h =
    let same : without_blanks rest ≡ led_by 59 o = ap without_blanks h.whole ∙ skipped h.gap (led_by 59 o) h.blank ∙ led_has_no_blank o in
    rw same (step o) where
      led_has_no_blank : (o : Option (List ℕ)) → without_blanks (led_by 59 o) ≡ led_by 59 o
      led_has_no_blank None = refl
      led_has_no_blank (Some t) = refl

      step : (o : Option (List ℕ)) → with_params display uri (led_by 59 o) ≡ Some (angled display uri o)
      step None = refl
      step (Some t) = refl

bracketed_again : (r : RawName) (display : Option (List ℕ)) (rest : List ℕ) → Lacks 62 r.uri → Closes rest r.params → r.display ≡ display → r.in_angles ≡ true → bracketed display (r.uri ++ 62 ∷ rest) ≡ Some r
unfolding bracketed
bracketed_again r display rest lacks closes d a =
    rw (after_at 62 r.uri (Some rest) lacks, before_at 62 r.uri (Some rest) lacks) (params_again display r.uri rest r.params closes ∙ ap (λ (x : RawName). Some x) (angled_is r display d a))

quoted_again : (text : List ℕ) (r : RawName) → IsQuotedName text r → Lacks 62 r.uri → name_of text ≡ Some r
unfolding name_of name_from quoted_name opened
quoted_again text r h lacks =
    let behind : List ℕ = r.uri ++ 62 ∷ h.rest in
    let front : without_blanks text ≡ 34 ∷ (h.inside ++ 34 ∷ (h.gap ++ 60 ∷ behind)) = ap without_blanks h.whole ∙ skipped h.lead _ h.lead_blank in
    let gap : without_blanks (h.gap ++ 60 ∷ behind) ≡ 60 ∷ behind = skipped h.gap (60 ∷ behind) h.gap_blank in
    rw (front, quoted_at h.inside (h.gap ++ 60 ∷ behind) h.fits, h.fits, gap) (bracketed_again r (Some h.inside) h.rest lacks h.closes h.display h.in_angles)

-- ---- tokens

before_far : (c : ℕ) (xs ys : List ℕ) → Lacks c xs → before c (xs ++ ys) ≡ xs ++ before c ys
before_far c [] ys h = refl
before_far c (x ∷ xs) ys h = rw h.0 (ap (λ (t : List ℕ). x ∷ t) (before_far c xs ys h.1))

angle_seen : (front rest : List ℕ) → Lacks 59 front → Lacks 60 front → is_some (after 60 (before 59 (front ++ 60 ∷ rest))) ≡ true
angle_seen front rest h k = rw (before_far 59 front (60 ∷ rest) h, after_at 60 front (Some (before 59 rest)) k) refl

phrase_lacks : (c : ℕ) → is_phrase_byte c ≡ false → (t : List ℕ) → list_all is_phrase_byte t ≡ true → Lacks c t
phrase_lacks c out t h = Lacks-from_class is_phrase_byte c out t h

from_words : (front rest : List ℕ) → list_all is_phrase_byte front ≡ true → name_from (front ++ 60 ∷ rest) ≡ worded_name (front ++ 60 ∷ rest)
unfolding name_from
from_words [] rest h = refl
from_words (b ∷ bs) rest h =
    let quote = phrase_lacks 34 refl (b ∷ bs) h in
    rw (quote.0, angle_seen (b ∷ bs) rest (phrase_lacks 59 refl (b ∷ bs) h) (phrase_lacks 60 refl (b ∷ bs) h)) refl

worded_again : (text : List ℕ) (r : RawName) → IsWordedName text r → Lacks 62 r.uri → name_of text ≡ Some r
unfolding name_of worded_name
worded_again text r h lacks =
    let behind : List ℕ = r.uri ++ 62 ∷ h.rest in
    let front : List ℕ = without_blanks h.front in
    let words : list_all is_phrase_byte front ≡ true = all_without_blanks is_phrase_byte h.front h.words in
    let whole : without_blanks text ≡ front ++ 60 ∷ behind = ap without_blanks h.whole ∙ skipped_before h.front 60 behind refl in
    let same : phrase_of front ≡ phrase_of h.front = phrase_again h.front in
    let none : Lacks 60 front = phrase_lacks 60 refl front words in
    rw (whole, from_words front behind words, after_at 60 front (Some behind) none, before_at 60 front (Some behind) none, words)
    (bracketed_again r (phrase_of front) h.rest lacks h.closes (h.display ∙ sym same) h.in_angles) where
      phrase_again : (t : List ℕ) → phrase_of (without_blanks t) ≡ phrase_of t
      phrase_again t = let same : trimmed (without_blanks t) ≡ trimmed t = ap without_end (skipped_again t) in rw same refl

-- ---- a URI as it is

from_bare : (front : List ℕ) (o : Option (List ℕ)) → Lacks 34 front → Lacks 59 front → Lacks 60 front → name_from (front ++ led_by 59 o) ≡ Some (bare (front ++ led_by 59 o))
unfolding name_from
from_bare [] None quote semicolon opening = refl
from_bare [] (Some t) quote semicolon opening = refl
from_bare (b ∷ bs) o quote semicolon opening = rw (quote.0, before_at 59 (b ∷ bs) o semicolon, after_none 60 (b ∷ bs) opening) refl

bare_again : (text : List ℕ) (r : RawName) → IsBareName text r → Lacks 34 r.uri → Lacks 59 r.uri → Lacks 60 r.uri → name_of text ≡ Some r
unfolding name_of
bare_again text r h quote semicolon opening =
    let front : List ℕ = without_blanks h.written in
    let lacks : (c : ℕ) → is_blank c ≡ false → Lacks c r.uri → Lacks c front = λ c out k. Lacks-without_blanks c h.written (Lacks-from_trimmed c out h.written (subst (λ (t : List ℕ). Lacks c t) h.uri k)) in
    let whole : without_blanks text ≡ front ++ led_by 59 r.params = ap without_blanks h.whole ∙ skipped_before_part h.written r.params in
    let none : Lacks 59 front = lacks 59 refl semicolon in
    let uri : trimmed front ≡ r.uri = ap without_end (skipped_again h.written) ∙ sym h.uri in
    rw (whole, from_bare front r.params (lacks 34 refl quote) none (lacks 60 refl opening), before_at 59 front r.params none, after_at 59 front r.params none, uri) (bare_record r h.display h.in_angles) where
      bare_record : (r : RawName) → r.display ≡ None → r.in_angles ≡ false → Some (record { display = None; uri = r.uri; in_angles = false; params = r.params }) ≡ Some r
      bare_record r d a = rw (sym d, sym a) refl

-- ---- all three

no_semicolon : (r : RawName) → IsTrue (stands_well r) → r.in_angles ≡ false → Lacks 59 r.uri
unfolding stands_well
no_semicolon r h bare = Lacks-from_class (λ b. not (is_one_of (codes ",;?") b)) 59 refl r.uri (alone r.in_angles bare h) where
  alone : (a : Bool) → a ≡ false → (a || list_all (λ b. not (is_one_of (codes ",;?") b)) r.uri) ≡ true → list_all (λ b. not (is_one_of (codes ",;?") b)) r.uri ≡ true
  alone true e k = absurd cc
  alone false e k = k

pub name_again : (text : List ℕ) (r : RawName) (raw : RawUri) → SpellsName text r → IsTrue (stands_well r) → Spells r.uri raw → name_of text ≡ Some r
name_again text r raw (inl h) stands uri = quoted_again text r h (lacks_closing r.uri raw uri)
name_again text r raw (inr (inl h)) stands uri = worded_again text r h (lacks_closing r.uri raw uri)
name_again text r raw (inr (inr h)) stands uri = bare_again text r h (lacks_quote r.uri raw uri) (no_semicolon r stands h.in_angles) (lacks_opening r.uri raw uri)
