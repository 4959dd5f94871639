-- A name and an address with a tag of its own: what is written for it is a header value, and is read again.
use Rattle.std.proofs.Common.{◌≡◌, ℕ, Bool, true, false, cond, eqb, inl, inr, List, [], ◌∷◌, ◌++◌, length, Option, Some, None, refl, sym, ap, subst, ◌∙◌}
use Rattle.std.specs.Prelude.{IsTrue}
use Rattle.std.specs.List.{list_all}
use Rattle.std.proofs.lemmas.Bool.{and_parts, and_from}
use Rattle.std.proofs.lemmas.List.{append-nil}
use Rattle.text.specs.Class.{is_token_byte, passes_if_there}
use Rattle.text.specs.Cut.{led_by}
use Rattle.text.specs.Trim.{trimmed, without_end}
use Rattle.sip_uri.specs.NameParts.{RawName, stands_well}
use Rattle.sip_uri.specs.NameAddr.{SpellsName, ReadsNameAddr, display_part, name_addr_text}
use Rattle.sip_uri.specs.Writing.{uri_text, params_text}
use Rattle.sip_uri.proofs.NameLaws.{name_is_read}
use Rattle.sip_uri.proofs.NameTrip.{name_written_again}
use Rattle.sip_uri.proofs.RoundTrip.{written_again}
use Rattle.sip_message.specs.Fields.{begins_blank}
use Rattle.sip_message.specs.Lines.{is_clean, is_text_byte}
use Rattle.sip_message.specs.Party.{party_of, party_from}
use Rattle.sip_message.specs.Repeatable.{IsValue}
use Rattle.sip_writing.proofs.StartTexts.{uri_clean}
use Rattle.sip_message.proofs.ValueLaws.{trim_same, token_end, end_behind, token_clean, clean_joined, trimmed_clean}
use Rattle.sip_uri.specs.declared.uri.NameAddr.{NameAddr}
use Rattle.sip_writing.specs.Requests.{tag_params, tagged, IsReadName}
use Rattle.sip_writing.proofs.TagTrip.{not_empty, params_part, reads_tag, tag_fits_again}
use Rattle.sip_writing.proofs.TrimLaws.{end_after}

-- ---- read again

abbrev in_angles : RawName → Option (List ℕ) → RawName
in_angles raw params = record { display = raw.display; uri = raw.uri; in_angles = true; params = params }

-- a name that was read may have other parameters
spelled : (text : List ℕ) (raw : RawName) (params : Option (List ℕ)) → SpellsName text raw → (t : List ℕ) × SpellsName t (in_angles raw params)
spelled text raw params (inl h) = (
  h.lead ++ 34 ∷ (h.inside ++ 34 ∷ (h.gap ++ 60 ∷ (raw.uri ++ 62 ∷ led_by 59 params))),
  inl (record {
    lead = h.lead;
    inside = h.inside;
    gap = h.gap;
    rest = led_by 59 params;
    whole = refl;
    lead_blank = h.lead_blank;
    gap_blank = h.gap_blank;
    fits = h.fits;
    closes = record { gap = []; blank = refl; whole = refl };
    display = h.display;
    in_angles = refl;
  }),
)
spelled text raw params (inr (inl h)) = (
  h.front ++ 60 ∷ (raw.uri ++ 62 ∷ led_by 59 params),
  inr (inl (record {
    front = h.front;
    rest = led_by 59 params;
    whole = refl;
    words = h.words;
    closes = record { gap = []; blank = refl; whole = refl };
    display = h.display;
    in_angles = refl;
  })),
)
spelled text raw params (inr (inr h)) = (
  60 ∷ (raw.uri ++ 62 ∷ led_by 59 params),
  inr (inl (record {
    front = [];
    rest = led_by 59 params;
    whole = refl;
    words = refl;
    closes = record { gap = []; blank = refl; whole = refl };
    display = h.display;
    in_angles = refl;
  })),
)

stands : (raw : RawName) (params : Option (List ℕ)) → IsTrue (stands_well (in_angles raw params))
unfolding stands_well
stands raw params = refl

pub tagged_reads : (name : NameAddr) (tag : List ℕ) → IsReadName name → list_all is_token_byte tag ≡ true → ReadsNameAddr (name_addr_text (tagged name tag)) (tagged name tag)
tagged_reads name tag h token =
    let params = reads_tag tag token in
    let t = spelled h.text h.reads.raw (params_part tag) h.reads.fits.spelled in
    let reads : ReadsNameAddr t.0 (tagged name tag) = record {
      raw = in_angles h.reads.raw (params_part tag);
      fits = record { spelled = t.1; stands = stands h.reads.raw (params_part tag); form = params.form };
      uri = h.reads.uri;
      display = h.reads.display;
      params = params.value;
    } in
    name_written_again t.0 (tagged name tag) reads

pub tagged_is : (name : NameAddr) (tag : List ℕ) → IsReadName name → list_all is_token_byte tag ≡ true → party_of (name_addr_text (tagged name tag)) ≡ Some (tagged name tag)
unfolding party_of
tagged_is name tag h token =
    ap party_from (name_is_read (name_addr_text (tagged name tag)) (tagged name tag) (tagged_reads name tag h token))
    ∙ rw (tag_fits_again tag token) refl

-- ---- clean

pub clean_front : (a b : List ℕ) → is_clean (a ++ b) ≡ true → is_clean a ≡ true
clean_front [] b h = refl
clean_front (x ∷ a) b h =
    let parts = and_parts (is_text_byte x) (is_clean (a ++ b)) h in
    and_from (is_text_byte x) (is_clean a) parts.0 (clean_front a b parts.1)

clean_back : (a b : List ℕ) → is_clean (a ++ b) ≡ true → is_clean b ≡ true
clean_back [] b h = h
clean_back (x ∷ a) b h = clean_back a b (and_parts (is_text_byte x) (is_clean (a ++ b)) h).1

display_clean : (text : List ℕ) (raw : RawName) → SpellsName text raw → is_clean text ≡ true → passes_if_there is_clean raw.display ≡ true
display_clean text raw (inl h) clean =
    let behind : List ℕ = h.inside ++ 34 ∷ (h.gap ++ 60 ∷ (raw.uri ++ 62 ∷ h.rest)) in
    let inside : is_clean (34 ∷ behind) ≡ true = clean_back h.lead (34 ∷ behind) (ap is_clean (sym h.whole) ∙ clean) in
    rw h.display (clean_front h.inside (34 ∷ (h.gap ++ 60 ∷ (raw.uri ++ 62 ∷ h.rest))) inside)
display_clean text raw (inr (inl h)) clean =
    rw h.display (step (eqb (length (trimmed h.front)) 0) (trimmed_clean h.front (clean_front h.front (60 ∷ (raw.uri ++ 62 ∷ h.rest)) (ap is_clean (sym h.whole) ∙ clean)))) where
      step : (e : Bool) → is_clean (trimmed h.front) ≡ true → passes_if_there is_clean (cond e None (Some (trimmed h.front))) ≡ true
      step true k = refl
      step false k = k
display_clean text raw (inr (inr h)) clean = rw h.display refl

part_clean : (display : Option (List ℕ)) → passes_if_there is_clean display ≡ true → is_clean (display_part display) ≡ true
part_clean None h = refl
part_clean (Some d) h = clean_joined d (34 ∷ 32 ∷ []) h refl

params_are : (tag : List ℕ) → params_text 59 59 (tag_params tag) ≡ led_by 59 (params_part tag)
params_are [] = refl
params_are (b ∷ bs) = rw (not_empty b bs) (ap (λ (t : List ℕ). 59 ∷ 116 ∷ 97 ∷ 103 ∷ 61 ∷ t) (append-nil (b ∷ bs)))

params_clean : (tag : List ℕ) → list_all is_token_byte tag ≡ true → is_clean (led_by 59 (params_part tag)) ≡ true
params_clean [] h = refl
params_clean (b ∷ bs) h = token_clean (b ∷ bs) h

-- ---- without blanks at its ends

params_end : (tag : List ℕ) → list_all is_token_byte tag ≡ true → without_end (62 ∷ led_by 59 (params_part tag)) ≡ 62 ∷ led_by 59 (params_part tag)
params_end [] h = refl
params_end (b ∷ bs) h =
    let tag : List ℕ = b ∷ bs in
    end_behind (62 ∷ 59 ∷ 116 ∷ 97 ∷ 103 ∷ []) 61 tag (end_after 61 tag refl (token_end tag h))

begins : (display : Option (List ℕ)) (rest : List ℕ) → begins_blank (display_part display ++ 60 ∷ rest) ≡ false
begins None rest = refl
begins (Some d) rest = refl

-- a value of a header field: clean, and without blanks at its ends
value_at : (display : Option (List ℕ)) (uri tag : List ℕ) → passes_if_there is_clean display ≡ true → is_clean uri ≡ true → list_all is_token_byte tag ≡ true
    → IsValue (display_part display ++ 60 ∷ (uri ++ 62 ∷ led_by 59 (params_part tag)))
value_at display uri tag h k token =
    let params : List ℕ = led_by 59 (params_part tag) in
    let text : List ℕ = display_part display ++ 60 ∷ (uri ++ 62 ∷ params) in
    record {
      clean = clean_joined (display_part display) (60 ∷ (uri ++ 62 ∷ params)) (part_clean display h) (clean_joined uri (62 ∷ params) k (params_clean tag token));
      ends = trim_same text (record {
        front = begins display (uri ++ 62 ∷ params);
        back = end_behind (display_part display) 60 (uri ++ 62 ∷ params) (end_behind (60 ∷ uri) 62 params (params_end tag token));
      });
    }

pub tagged_value : (name : NameAddr) (tag : List ℕ) → IsReadName name → list_all is_token_byte tag ≡ true → IsValue (name_addr_text (tagged name tag))
unfolding name_addr_text
tagged_value name tag h token =
    let display : passes_if_there is_clean name.display ≡ true = rw h.reads.display (display_clean h.text h.reads.raw h.reads.fits.spelled h.clean) in
    let uri : is_clean (uri_text name.uri) ≡ true = uri_clean (uri_text name.uri) name.uri (written_again h.reads.raw.uri name.uri h.reads.uri) in
    subst (λ (params : List ℕ). IsValue (display_part name.display ++ 60 ∷ (uri_text name.uri ++ 62 ∷ params))) (sym (params_are tag)) (value_at name.display (uri_text name.uri) tag display uri token)
