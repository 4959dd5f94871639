-- What is written for a response, with further header fields and a body, is read again as that response.
use Rattle.std.proofs.Common.{◌≡◌, ℕ, ◌≤◌, Bool, true, false, not, ◌&&◌, cond, eqb, List, [], ◌∷◌, ◌++◌, length, map, Option, Some, Result, Ok, Err, refl, sym, ap, subst, ◌∙◌, append_assoc, codes}
use Rattle.std.specs.Prelude.{filter, IsTrue, IfOk}
use Rattle.std.specs.List.{list_all, flat_map, AllByRecursion}
use Rattle.std.specs.Str.{str_eq_ignore_ascii_case}
use Rattle.std.proofs.lemmas.Bool.{and_parts, and_from}
use Rattle.std.proofs.lemmas.List.{append-nil}
use Rattle.std.proofs.lemmas.List.Folds.{list_all-append}
use Rattle.text.specs.Class.{is_token_byte, is_run_of}
use Rattle.text.specs.Pieces.{pieces}
use Rattle.text.specs.declared.split.Within.TheVariants.{Nothing}
use Rattle.sip_uri.specs.declared.uri.Addr.{Addr}
use Rattle.sip_message.specs.declared.contact.ContactValue.{ContactValue}
use Rattle.sip_message.specs.declared.headers.Header.{Header}
use Rattle.sip_message.specs.declared.message.Parts.{Parts}
use Rattle.sip_message.specs.declared.message.Response.{Response}
use Rattle.sip_message.specs.declared.via.Via.{Via}
use Rattle.sip_message.specs.Contact.{contact_of, contacts_of, contact_need}
use Rattle.sip_message.specs.Grammar.{SaysParts, SaysContact, SaysHops, SaysType, start_of_response}
use Rattle.sip_message.specs.Lines.{is_clean}
use Rattle.sip_message.specs.HeaderNames.{long_name}
use Rattle.sip_message.specs.Lookup.{named, is_named, values_named}
use Rattle.sip_writing.specs.Reasons.{Reason, reasons, reason_in, reason_of}
use Rattle.sip_message.specs.Repeatable.{IsValue, CanBeRepeated}
use Rattle.sip_writing.specs.Reply.{via_text, marked_top, tagged_to, tagged_text, replied, reply_headers, reply_of}
use Rattle.sip_message.specs.ContentLength.{max_content_length}
use Rattle.sip_message.specs.Via.{via_of}
use Rattle.sip_message.specs.Written.{is_written}
use Rattle.sip_writing.specs.WritingMessage.{tells_no_length, IsWrittenRest, IsWrittenResponse, IsWrittenMessage}
use Rattle.sip_writing.specs.Further.{repeats_nothing, MayFollow, with_further, IsReadAgain}
use Rattle.sip_message.proofs.WrittenLaws.{is_written_from}
use Rattle.sip_writing.proofs.MarkedTrip.{IsNumbered, marked_vias, marked_some, IsTo, tagged_is}
use Rattle.sip_writing.proofs.ViaTrip.{IsVia, via_is, via_is_value, via_one_piece, via_again}

-- ---- lookups

pub none_named : (name : List ℕ) (hs : List Header) → list_all (λ h. not (is_named name h)) hs ≡ true → values_named name hs ≡ []
none_named name [] e = refl
none_named name (h ∷ hs) e = let parts = and_parts (not (is_named name h)) (list_all (λ x. not (is_named name x)) hs) e in step (is_named name h) parts.0 (none_named name hs parts.1) where
  step : (b : Bool) → not b ≡ true → values_named name hs ≡ [] → map (λ (x : Header). x.value) (cond b (h ∷ filter (is_named name) hs) (filter (is_named name) hs)) ≡ []
  step true k more = absurd cc
  step false k more = more

pub all_imply : (p q : Header → Bool) → ((h : Header) → p h ≡ true → q h ≡ true) → (hs : List Header) → list_all p hs ≡ true → list_all q hs ≡ true
all_imply p q imply [] e = refl
all_imply p q imply (h ∷ hs) e = let parts = and_parts (p h) (list_all p hs) e in and_from (q h) (list_all q hs) (imply h parts.0) (all_imply p q imply hs parts.1)

-- the names that a header field that repeats nothing does not have
record IsOther (h : Header) : Type 0 where
  via : not (is_named (codes "Via") h) ≡ true
  from : not (is_named (codes "From") h) ≡ true
  to : not (is_named (codes "To") h) ≡ true
  call_id : not (is_named (codes "Call-ID") h) ≡ true
  cseq : not (is_named (codes "CSeq") h) ≡ true

other_is : (h : Header) → repeats_nothing h ≡ true → IsOther h
other_is h e =
    let via = not (is_named (codes "Via") h) in
    let from = not (is_named (codes "From") h) in
    let to = not (is_named (codes "To") h) in
    let call_id = not (is_named (codes "Call-ID") h) in
    let cseq = not (is_named (codes "CSeq") h) in
    let a = and_parts (via && from && to && call_id) cseq e in
    let b = and_parts (via && from && to) call_id a.0 in
    let c = and_parts (via && from) to b.0 in
    let d = and_parts via from c.0 in
    record { via = d.0; from = d.1; to = c.1; call_id = b.1; cseq = a.1 }

-- ---- the header fields of Via

abbrev via_header : Via → Header
via_header via = named (codes "Via") (via_text via)

vias_passed : (name : List ℕ) → str_eq_ignore_ascii_case (codes "Via") name ≡ false → (vias : List Via) (hs : List Header) → values_named name (map via_header vias ++ hs) ≡ values_named name hs
vias_passed name other [] hs = refl
vias_passed name other (via ∷ vias) hs = rw other (vias_passed name other vias hs)

vias_found : (vias : List Via) (hs : List Header) → values_named (codes "Via") (map via_header vias ++ hs) ≡ map via_text vias ++ values_named (codes "Via") hs
vias_found [] hs = refl
vias_found (via ∷ vias) hs = ap (λ (vs : List (List ℕ)). via_text via ∷ vs) (vias_found vias hs)

vias_apart : (vias : List Via) → AllByRecursion IsVia vias → flat_map (λ value. pieces 44 Nothing value) (map via_text vias) ≡ map via_text vias
vias_apart [] h = refl
vias_apart (via ∷ vias) h = rw (via_one_piece via h.0) (ap (λ (vs : List (List ℕ)). via_text via ∷ vs) (vias_apart vias h.1))

vias_again : (vias : List Via) → AllByRecursion IsVia vias → map via_of (map via_text vias) ≡ map (λ via. Some via) vias
vias_again [] h = refl
vias_again (via ∷ vias) h = rw (via_again via h.0) (ap (λ (vs : List (Option Via)). Some via ∷ vs) (vias_again vias h.1))

pub written_with : (name value : List ℕ) → is_run_of is_token_byte name ≡ true → long_name name ≡ name → IsValue value → is_written (named name value) ≡ true
written_with name value token long is = is_written_from (named name value) (record { token = token; long = long; clean = is.clean; trim = is.ends })

vias_written : (vias : List Via) → AllByRecursion IsVia vias → list_all is_written (map via_header vias) ≡ true
unfolding long_name
vias_written [] h = refl
vias_written (via ∷ vias) h = and_from _ _ (written_with (codes "Via") (via_text via) refl refl (via_is_value via h.0)) (vias_written vias h.1)

vias_without_length : (vias : List Via) → list_all tells_no_length (map via_header vias) ≡ true
vias_without_length [] = refl
vias_without_length (via ∷ vias) = vias_without_length vias

-- ---- what was read

first_via : (text : List ℕ) (via : Via) (ts : List (List ℕ)) (vias : List Via) → via_of text ∷ map via_of ts ≡ Some via ∷ map (λ v. Some v) vias
    → (via_of text ≡ Some via) × (map via_of ts ≡ map (λ v. Some v) vias)
first_via text via ts vias e = (cc, cc)

vias_read : (texts : List (List ℕ)) (vias : List Via) → map via_of texts ≡ map (λ via. Some via) vias → list_all is_clean texts ≡ true → AllByRecursion IsVia vias
vias_read [] [] e h = tt
vias_read [] (via ∷ vias) e h = absurd cc
vias_read (text ∷ texts) [] e h = absurd cc
vias_read (text ∷ texts) (via ∷ vias) e h =
    let parts = first_via text via texts vias e in
    let clean = and_parts (is_clean text) (list_all is_clean texts) h in
    (via_is text via parts.0 clean.0, vias_read texts vias parts.1 clean.1)

-- ---- reasons

reason_clean : (rs : List Reason) → list_all (λ r. is_clean r.text) rs ≡ true → (status : ℕ) → is_clean (reason_in rs status) ≡ true
reason_clean [] h status = refl
reason_clean (r ∷ rs) h status =
    let parts = and_parts (is_clean r.text) (list_all (λ x. is_clean x.text) rs) h in
    step (eqb status r.status) parts.0 (reason_clean rs parts.1 status) where
      step : (b : Bool) → is_clean r.text ≡ true → is_clean (reason_in rs status) ≡ true → is_clean (cond b r.text (reason_in rs status)) ≡ true
      step true k more = k
      step false k more = more

reason_is_clean : (status : ℕ) → is_clean (reason_of status) ≡ true
unfolding reason_of
reason_is_clean status = reason_clean reasons refl status

-- ---- the whole

module _ (parts : Parts) (source : Addr) (status : ℕ) (tag : List ℕ) (token : is_run_of is_token_byte tag ≡ true) (n : IsNumbered source) (h : CanBeRepeated parts) (from : 100 ≤ status) (upto : status ≤ 699) where
  abbrev response : Response
  response = reply_of parts source status tag

  abbrev vias : List Via
  vias = marked_top source parts.vias

  vias_are : AllByRecursion IsVia vias
  vias_are = marked_vias source parts.vias n (vias_read h.via_texts parts.vias h.each_via h.vias_clean)

  abbrev to_text : List ℕ
  to_text = tagged_text status parts.to parts.to_text tag

  to_is : IsTo (tagged_to status parts.to tag) to_text
  to_is = tagged_is status parts.to parts.to_text tag (record { value = h.to_value; party = h.to }) token

  -- after the Via fields
  abbrev others : List Header → List Header
  others further = named (codes "From") parts.from_text ∷ named (codes "To") to_text ∷ named (codes "Call-ID") parts.call_id ∷ named (codes "CSeq") parts.cseq_text ∷ further

  abbrev fields : List Header → List Header
  fields further = map via_header vias ++ others further

  joined_headers : (vs : List Header) (a b c d : Header) (further : List Header) → (vs ++ a ∷ [] ++ b ∷ [] ++ c ∷ [] ++ d ∷ []) ++ further ≡ vs ++ (a ∷ b ∷ c ∷ d ∷ further)
  joined_headers vs a b c d further = simp append_assoc

  fields_are : (further : List Header) → response.headers ++ further ≡ fields further
  unfolding reply_of replied reply_headers
  fields_are further = joined_headers (map via_header vias) (named (codes "From") parts.from_text) (named (codes "To") to_text) (named (codes "Call-ID") parts.call_id) (named (codes "CSeq") parts.cseq_text) further

  module _ (further : List Header) (body : List ℕ) (m : MayFollow (start_of_response response) response.parts.cseq.method further) (small : length body ≤ max_content_length) where
    none : (name : List ℕ) → ((x : Header) → IsOther x → not (is_named name x) ≡ true) → values_named name further ≡ []
    none name is = none_named name further (all_imply repeats_nothing (λ x. not (is_named name x)) (λ x e. is x (other_is x e)) further m.repeat_nothing)

    via_values : values_named (codes "Via") (fields further) ≡ map via_text vias
    via_values = vias_found vias (others further) ∙ ap (λ (vs : List (List ℕ)). map via_text vias ++ vs) (none (codes "Via") (λ x o. o.via)) ∙ append-nil (map via_text vias)

    from_values : values_named (codes "From") (fields further) ≡ parts.from_text ∷ []
    from_values = vias_passed (codes "From") refl vias (others further) ∙ ap (λ (vs : List (List ℕ)). parts.from_text ∷ vs) (none (codes "From") (λ x o. o.from))

    to_values : values_named (codes "To") (fields further) ≡ to_text ∷ []
    to_values = vias_passed (codes "To") refl vias (others further) ∙ ap (λ (vs : List (List ℕ)). to_text ∷ vs) (none (codes "To") (λ x o. o.to))

    call_id_values : values_named (codes "Call-ID") (fields further) ≡ parts.call_id ∷ []
    call_id_values = vias_passed (codes "Call-ID") refl vias (others further) ∙ ap (λ (vs : List (List ℕ)). parts.call_id ∷ vs) (none (codes "Call-ID") (λ x o. o.call_id))

    cseq_values : values_named (codes "CSeq") (fields further) ≡ parts.cseq_text ∷ []
    cseq_values = vias_passed (codes "CSeq") refl vias (others further) ∙ ap (λ (vs : List (List ℕ)). parts.cseq_text ∷ vs) (none (codes "CSeq") (λ x o. o.cseq))

    parts_said : SaysParts (start_of_response response) (fields further) response.parts
    unfolding reply_of replied
    parts_said = record {
      some_via = marked_some source parts.vias h.some_via;
      each_via = ap (λ (vs : List (List ℕ)). map via_of (flat_map (λ value. pieces 44 Nothing value) vs)) via_values ∙ ap (map via_of) (vias_apart vias vias_are) ∙ vias_again vias vias_are;
      one_from = from_values;
      from = h.from;
      from_tag = refl;
      one_to = to_values;
      to = to_is.party;
      one_call_id = call_id_values;
      call_id = h.call_id;
      one_cseq = cseq_values;
      cseq = h.cseq;
      cseq_method = refl;
    }

    contacts_same : contacts_of (fields further) ≡ contacts_of further
    contacts_same = ap (λ (vs : List (List ℕ)). map contact_of (flat_map (λ value. pieces 44 Nothing value) vs)) (vias_passed (codes "Contact") refl vias (others further))

    all_written : list_all is_written (fields further) ≡ true
    unfolding long_name
    all_written =
        list_all-append is_written (map via_header vias) (others further)
        ∙ and_from _ _ (vias_written vias vias_are)
        (and_from _ _ (written_with (codes "From") parts.from_text refl refl h.from_value)
        (and_from _ _ (written_with (codes "To") to_text refl refl to_is.value)
        (and_from _ _ (written_with (codes "Call-ID") parts.call_id refl refl h.call_id_value)
        (and_from _ _ (written_with (codes "CSeq") parts.cseq_text refl refl h.cseq_value) m.written))))

    none_tells_length : list_all tells_no_length (fields further) ≡ true
    none_tells_length = list_all-append tells_no_length (map via_header vias) (others further) ∙ and_from _ _ (vias_without_length vias) m.no_length

    rest_written : IsWrittenRest (start_of_response response) (fields further) response.parts m.hops body
    rest_written = record {
      written = all_written;
      no_length = none_tells_length;
      says_parts = parts_said;
      says_contact = subst (λ (cs : List ContactValue). SaysContact (contact_need (start_of_response response) response.parts.cseq.method) cs) (sym contacts_same) m.says_contact;
      says_hops = subst (λ (vs : List (List ℕ)). SaysHops vs m.hops) (sym (vias_passed (codes "Max-Forwards") refl vias (others further))) m.says_hops;
      says_type = subst (λ (vs : List (List ℕ)). SaysType vs) (sym (vias_passed (codes "Content-Type") refl vias (others further))) m.says_type;
      small = small;
    }

    response_written : IsWrittenResponse (with_further response further body)
    unfolding reply_of
    response_written = record {
      three_digits = from;
      up_to_699 = upto;
      clean = reason_is_clean status;
      hops = m.hops;
      rest = subst (λ (hs : List Header). IsWrittenRest (start_of_response response) hs response.parts m.hops body) (sym (fields_are further)) rest_written;
    }

  read_again : IsReadAgain response
  unfolding IsWrittenMessage
  read_again further body m small = response_written further body m small

pub read_again_at : {E : Type 0} (r : Result Response E) (parts : Parts) (source : Addr) (status : ℕ) (tag : List ℕ) → IsNumbered source → IfOk r (λ a. a ≡ reply_of parts source status tag)
    → IfOk r (λ a. CanBeRepeated parts → IsTrue (is_run_of is_token_byte tag) → 100 ≤ status → status ≤ 699 → IsReadAgain a)
read_again_at (Ok a) parts source status tag n h = subst (λ (x : Response). CanBeRepeated parts → IsTrue (is_run_of is_token_byte tag) → 100 ≤ status → status ≤ 699 → IsReadAgain x) (sym h) (λ c token from upto. read_again parts source status tag token n c from upto)
read_again_at (Err e) parts source status tag n h = tt
