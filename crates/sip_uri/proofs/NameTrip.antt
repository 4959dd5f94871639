-- What is written for a name and an address that was read is read again as that value.
use Rattle.std.proofs.Common.{◌≡◌, ℕ, ◌<◌, Bool, true, false, ◌||◌, cond, eqb, leb, inl, inr, List, [], ◌∷◌, ◌++◌, length, Option, Some, None, refl, sym, ap, subst, ◌∙◌, append_assoc}
use Rattle.std.specs.Prelude.{IsTrue}
use Rattle.std.specs.List.{list_all}
use Rattle.std.proofs.lemmas.Bool.{and_parts, agree_below_at, leb-false}
use Rattle.text.specs.Class.{passes_if_there}
use Rattle.text.specs.Trim.{trimmed}
use Rattle.text.proofs.CutLaws.{differs}
use Rattle.sip_uri.specs.declared.uri.Param.{Param}
use Rattle.sip_uri.specs.declared.uri.NameAddr.{NameAddr}
use Rattle.sip_uri.specs.Quoted.{is_quoted_byte, fits_quotes}
use Rattle.sip_uri.specs.NameParts.{RawName, is_phrase_byte, stands_well}
use Rattle.sip_uri.specs.NameAddr.{Closes, SpellsName, ReadsNameAddr, display_part, name_addr_text}
use Rattle.sip_uri.specs.Writing.{uri_text, params_text}
use Rattle.sip_uri.proofs.BlankLaws.{all_trimmed}
use Rattle.sip_uri.proofs.FieldTrip.{written, Again, fields_again}
use Rattle.sip_uri.proofs.RoundTrip.{written_again}

-- ---- displays

or_true : (e : Bool) → (e || true) ≡ true
or_true true = refl
or_true false = refl

quotable : (b : ℕ) → is_phrase_byte b ≡ true → is_quoted_byte b ≡ true
quotable b h = step (leb 32 b) refl where
  step : (e : Bool) → leb 32 b ≡ e → is_quoted_byte b ≡ true
  step true k = rw (k, differs is_phrase_byte 34 b refl h, differs is_phrase_byte 92 b refl h, differs is_phrase_byte 127 b refl h) (or_true (eqb b 9))
  step false k =
      let small : b < 32 = leb-false 32 b k in
      let tab : eqb b 9 ≡ true = sym (agree_below_at is_phrase_byte (λ x. eqb x 9) 32 b refl small) ∙ h in
      rw tab refl

phrase_fits : (t : List ℕ) → list_all is_phrase_byte t ≡ true → fits_quotes false t ≡ true
phrase_fits [] h = refl
phrase_fits (b ∷ bs) h =
    let parts = and_parts (is_phrase_byte b) (list_all is_phrase_byte bs) h in
    rw (quotable b parts.0, differs is_phrase_byte 92 b refl parts.0) (phrase_fits bs parts.1)

display_fits : (text : List ℕ) (r : RawName) → SpellsName text r → passes_if_there (fits_quotes false) r.display ≡ true
display_fits text r (inl h) = rw h.display h.fits
display_fits text r (inr (inl h)) = rw h.display (step (eqb (length (trimmed h.front)) 0)) where
  step : (e : Bool) → passes_if_there (fits_quotes false) (cond e None (Some (trimmed h.front))) ≡ true
  step true = refl
  step false = phrase_fits (trimmed h.front) (all_trimmed is_phrase_byte h.front h.words)
display_fits text r (inr (inr h)) = rw h.display refl

-- ---- the whole

abbrev raw_again : NameAddr → RawName
raw_again n = record { display = n.display; uri = uri_text n.uri; in_angles = true; params = written n.params }

closes_again : (n : NameAddr) → Again n.params → Closes (params_text 59 59 n.params) (written n.params)
closes_again n h = record { gap = []; blank = refl; whole = h.text }

spelled_again : (n : NameAddr) (display : Option (List ℕ)) → n.display ≡ display → passes_if_there (fits_quotes false) display ≡ true → Again n.params
    → SpellsName (display_part display ++ 60 ∷ (uri_text n.uri ++ 62 ∷ params_text 59 59 n.params)) (raw_again n)
spelled_again n None is fits h = inr (inl (record { front = []; rest = params_text 59 59 n.params; whole = refl; words = refl; closes = closes_again n h; display = is; in_angles = refl }))
spelled_again n (Some d) is fits h =
    let behind : List ℕ = 60 ∷ (uri_text n.uri ++ 62 ∷ params_text 59 59 n.params) in
    inl (record {
      lead = [];
      inside = d;
      gap = 32 ∷ [];
      rest = params_text 59 59 n.params;
      whole = ap (λ (x : List ℕ). 34 ∷ x) (append_assoc d (34 ∷ 32 ∷ []) behind);
      lead_blank = refl;
      gap_blank = refl;
      fits = fits;
      closes = closes_again n h;
      display = is;
      in_angles = refl;
    })

text_again : (n : NameAddr) → passes_if_there (fits_quotes false) n.display ≡ true → Again n.params → SpellsName (name_addr_text n) (raw_again n)
unfolding name_addr_text
text_again n fits h = spelled_again n n.display refl fits h

stands_again : (n : NameAddr) → IsTrue (stands_well (raw_again n))
unfolding stands_well
stands_again n = refl

pub name_written_again : (text : List ℕ) (n : NameAddr) → ReadsNameAddr text n → ReadsNameAddr (name_addr_text n) n
name_written_again text n h =
    let fields : Again n.params = subst (λ (ps : List Param). Again ps) (sym h.params) (fields_again h.raw.params h.fits.form) in
    let display : passes_if_there (fits_quotes false) n.display ≡ true = rw h.display (display_fits text h.raw h.fits.spelled) in
    record {
      raw = raw_again n;
      fits = record { spelled = text_again n display fields; stands = stands_again n; form = fields.form };
      uri = written_again h.raw.uri n.uri h.uri;
      display = refl;
      params = sym fields.value;
    }
