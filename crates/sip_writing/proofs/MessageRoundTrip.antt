-- What is written for a message of the written form is read again as that message.
use Rattle.std.proofs.Common.{◌≡◌, ℕ, ◌<◌, ◌^◌, Bool, true, false, not, cond, eqb, List, [], ◌∷◌, ◌++◌, length, map, refl, sym, ap, subst, ◌∙◌, append_assoc, codes, arith}
use Rattle.std.specs.Prelude.{decimal, filter}
use Rattle.std.specs.Char.{is_ascii_digit}
use Rattle.std.specs.List.{flat_map, list_all}
use Rattle.std.proofs.lemmas.Bool.{and_parts, and_from}
use Rattle.std.proofs.lemmas.List.{append-nil}
use Rattle.text.specs.Class.{is_token_byte}
use Rattle.text.specs.Pieces.{pieces}
use Rattle.text.specs.declared.split.Within.TheVariants.{Nothing}
use Rattle.text.proofs.Numbers.{decimal_digits, decimal_run, number_again}
use Rattle.sip_uri.specs.Grammar.{ReadsUri}
use Rattle.sip_uri.specs.Writing.{uri_text}
use Rattle.sip_uri.proofs.RoundTrip.{written_again}
use Rattle.sip_message.specs.declared.contact.ContactValue.{ContactValue}
use Rattle.sip_message.specs.declared.headers.Header.{Header}
use Rattle.sip_message.specs.declared.message.Message.{Message}
use Rattle.sip_message.specs.declared.message.Message.TheVariants as Kinds
use Rattle.sip_message.specs.declared.message.Parts.{Parts}
use Rattle.sip_message.specs.declared.message.Request.{Request}
use Rattle.sip_message.specs.declared.message.Response.{Response}
use Rattle.sip_message.specs.declared.start.Start.{Start}
use Rattle.sip_message.specs.Contact.{contact_of, contacts_of, contact_need}
use Rattle.sip_message.specs.Grammar.{IsStartLine, Opens, SaysParts, SaysContact, SaysHops, SaysType, SaysBody, Says, start_of_request, start_of_response, ReadsRequest, ReadsResponse, ReadsMessage}
use Rattle.sip_message.specs.Lines.{is_clean}
use Rattle.sip_message.specs.Lookup.{is_named, values_named}
use Rattle.sip_message.specs.HeaderNames.{long_name}
use Rattle.sip_message.specs.ContentLength.{without_length}
use Rattle.sip_message.specs.Via.{via_of}
use Rattle.sip_writing.specs.Writing.{status_line, header_text, headers_text, length_text, message_text}
use Rattle.sip_message.specs.Written.{is_written}
use Rattle.sip_writing.specs.WritingMessage.{tells_no_length, IsWrittenRest, IsWrittenRequest, IsWrittenResponse, IsWrittenMessage}
use Rattle.sip_message.proofs.WrittenLaws.{is_written_from}
use Rattle.sip_writing.proofs.HeadRoundTrip.{head_written}
use Rattle.sip_writing.proofs.StartTexts.{status_again, uri_unbroken, uri_clean}
use Rattle.sip_message.proofs.ValueLaws.{clean_joined, token_clean, token_trimmed}

-- ---- the header field of the length

abbrev length_header : List ℕ → Header
length_header body = record { name = codes "Content-Length"; value = decimal (length body) }

pub digit_token : (b : ℕ) → is_ascii_digit b ≡ true → is_token_byte b ≡ true
digit_token b h = rw h refl

pub digits_token : (ds : List ℕ) → list_all is_ascii_digit ds ≡ true → list_all is_token_byte ds ≡ true
digits_token [] h = refl
digits_token (d ∷ ds) h =
    let parts = and_parts (is_ascii_digit d) (list_all is_ascii_digit ds) h in
    and_from (is_token_byte d) (list_all is_token_byte ds) (digit_token d parts.0) (digits_token ds parts.1)

length_written : (body : List ℕ) → length body < 2 ^ 64 → is_written (length_header body) ≡ true
unfolding long_name
length_written body small =
    let token : list_all is_token_byte (decimal (length body)) ≡ true = digits_token (decimal (length body)) (decimal_digits (length body) small) in
    is_written_from (length_header body) (record { token = refl; long = refl; clean = token_clean (decimal (length body)) token; trim = token_trimmed (decimal (length body)) token })

-- ---- header fields with one more at the end

all_behind : (p : Header → Bool) (hs : List Header) (h : Header) → list_all p hs ≡ true → p h ≡ true → list_all p (hs ++ h ∷ []) ≡ true
all_behind p [] h e k = and_from (p h) true k refl
all_behind p (x ∷ hs) h e k =
    let parts = and_parts (p x) (list_all p hs) e in
    and_from (p x) (list_all p (hs ++ h ∷ [])) parts.0 (all_behind p hs h parts.1 k)

values_same : (name : List ℕ) (hs : List Header) (h : Header) → is_named name h ≡ false → values_named name (hs ++ h ∷ []) ≡ values_named name hs
values_same name [] h other = rw other refl
values_same name (x ∷ hs) h other = step (is_named name x) (values_same name hs h other) where
  step : (b : Bool) → values_named name (hs ++ h ∷ []) ≡ values_named name hs
      → map (λ (y : Header). y.value) (cond b (x ∷ filter (is_named name) (hs ++ h ∷ [])) (filter (is_named name) (hs ++ h ∷ []))) ≡ map (λ (y : Header). y.value) (cond b (x ∷ filter (is_named name) hs) (filter (is_named name) hs))
  step true more = ap (λ (vs : List (List ℕ)). x.value ∷ vs) more
  step false more = more

not_true : (b : Bool) → not b ≡ true → b ≡ false
not_true true h = absurd cc
not_true false h = refl

values_one : (name : List ℕ) (hs : List Header) (h : Header) → list_all (λ x. not (is_named name x)) hs ≡ true → is_named name h ≡ true → values_named name (hs ++ h ∷ []) ≡ h.value ∷ []
values_one name [] h e k = rw k refl
values_one name (x ∷ hs) h e k =
    let parts = and_parts (not (is_named name x)) (list_all (λ y. not (is_named name y)) hs) e in
    rw (not_true (is_named name x) parts.0) (values_one name hs h parts.1 k)

without_last : (hs : List Header) (h : Header) → list_all tells_no_length hs ≡ true → is_named (codes "Content-Length") h ≡ true → without_length (hs ++ h ∷ []) ≡ hs
without_last [] h e k = rw k refl
without_last (x ∷ hs) h e k =
    let parts = and_parts (tells_no_length x) (list_all tells_no_length hs) e in
    rw (not_true (is_named (codes "Content-Length") x) parts.0) (ap (λ (xs : List Header). x ∷ xs) (without_last hs h parts.1 k))

pub headers_joined : (hs : List Header) (h : Header) → headers_text (hs ++ h ∷ []) ≡ headers_text hs ++ header_text h
headers_joined [] h = append-nil (header_text h)
headers_joined (x ∷ hs) h = ap (λ (t : List ℕ). header_text x ++ t) (headers_joined hs h) ∙ sym (append_assoc (header_text x) (headers_text hs) (header_text h))

-- ---- start line, header fields and body

module _ (start : Start) (headers : List Header) (parts : Parts) (hops : ℕ) (body : List ℕ) (w : IsWrittenRest start headers parts hops body) where
  body_small : length body < 2 ^ 64
  body_small = omega (arith, w.small)

  abbrev fields : List Header
  fields = headers ++ length_header body ∷ []

  same_values : (name : List ℕ) → is_named name (length_header body) ≡ false → values_named name fields ≡ values_named name headers
  same_values name other = values_same name headers (length_header body) other

  parts_said : SaysParts start fields parts
  parts_said = record {
    some_via = w.says_parts.some_via;
    each_via = ap (λ (vs : List (List ℕ)). map via_of (flat_map (λ value. pieces 44 Nothing value) vs)) (same_values (codes "Via") refl) ∙ w.says_parts.each_via;
    one_from = same_values (codes "From") refl ∙ w.says_parts.one_from;
    from = w.says_parts.from;
    from_tag = w.says_parts.from_tag;
    one_to = same_values (codes "To") refl ∙ w.says_parts.one_to;
    to = w.says_parts.to;
    one_call_id = same_values (codes "Call-ID") refl ∙ w.says_parts.one_call_id;
    call_id = w.says_parts.call_id;
    one_cseq = same_values (codes "CSeq") refl ∙ w.says_parts.one_cseq;
    cseq = w.says_parts.cseq;
    cseq_method = w.says_parts.cseq_method;
  }

  contacts_same : contacts_of fields ≡ contacts_of headers
  contacts_same = ap (λ (vs : List (List ℕ)). map contact_of (flat_map (λ value. pieces 44 Nothing value) vs)) (same_values (codes "Contact") refl)

  body_said : SaysBody (values_named (codes "Content-Length") fields) body body
  body_said = rw (values_one (codes "Content-Length") headers (length_header body) w.no_length refl)
      (decimal_run (length body) body_small, number_again 4294967295 (length body) w.small body_small, ([], sym (append-nil body)))

  said : Says start fields body parts hops body
  said = record {
    says_parts = parts_said;
    says_contact = subst (λ (cs : List ContactValue). SaysContact (contact_need start parts.cseq.method) cs) (sym contacts_same) w.says_contact;
    says_hops = subst (λ (vs : List (List ℕ)). SaysHops vs hops) (sym (same_values (codes "Max-Forwards") refl)) w.says_hops;
    says_type = subst (λ (vs : List (List ℕ)). SaysType vs) (sym (same_values (codes "Content-Type") refl)) w.says_type;
    says_body = body_said;
  }

  opened : (line text : List ℕ) → text ≡ line ++ 13 ∷ 10 ∷ (headers_text fields ++ 13 ∷ 10 ∷ body) → is_clean line ≡ true → IsStartLine line start → Opens text start fields body
  opened line text whole clean begins = record {
    line = line;
    rest = headers_text fields ++ 13 ∷ 10 ∷ body;
    whole = whole;
    clean = clean;
    begins = begins;
    head = (head_written fields body (all_behind is_written headers (length_header body) w.written (length_written body body_small))).0;
  }

  headers_same : headers ≡ without_length fields
  headers_same = sym (without_last headers (length_header body) w.no_length refl)

-- ---- a request

module _ (r : Request) (w : IsWrittenRequest r) where
  abbrev line : List ℕ
  line = r.method ++ 32 ∷ (uri_text r.uri ++ 32 ∷ codes "SIP/2.0")

  again : ReadsUri (uri_text r.uri) r.uri
  again = written_again w.uri_from r.uri w.uri

  line_is : IsStartLine line (start_of_request r)
  line_is = record {
    version = codes "SIP/2.0";
    form = record { uri_part = uri_text r.uri; whole = refl; token = w.token; unbroken = uri_unbroken (uri_text r.uri) r.uri again; reads = again; some_version = refl };
    sip_2 = refl;
  }

  line_clean : is_clean line ≡ true
  line_clean =
      let token = and_parts (not (eqb (length r.method) 0)) (list_all is_token_byte r.method) w.token in
      clean_joined r.method (32 ∷ (uri_text r.uri ++ 32 ∷ codes "SIP/2.0")) (token_clean r.method token.1) (clean_joined (32 ∷ uri_text r.uri) (32 ∷ codes "SIP/2.0") (uri_clean (uri_text r.uri) r.uri again) refl)

  text_is : message_text (Kinds.Request r) ≡ line ++ 13 ∷ 10 ∷ (headers_text (fields (start_of_request r) r.headers r.parts r.max_forwards r.body w.rest) ++ 13 ∷ 10 ∷ r.body)
  unfolding message_text
  text_is = rw (headers_joined r.headers (length_header r.body)) (simp append_assoc)

  request_reads : ReadsRequest (message_text (Kinds.Request r)) r
  request_reads = record {
    fields = fields (start_of_request r) r.headers r.parts r.max_forwards r.body w.rest;
    raw = r.body;
    opens = opened (start_of_request r) r.headers r.parts r.max_forwards r.body w.rest line (message_text (Kinds.Request r)) text_is line_clean line_is;
    says = said (start_of_request r) r.headers r.parts r.max_forwards r.body w.rest;
    headers = headers_same (start_of_request r) r.headers r.parts r.max_forwards r.body w.rest;
  }

-- ---- a response

status_joined : (digits reason rest : List ℕ) → (codes "SIP/2.0 " ++ digits ++ 32 ∷ [] ++ reason ++ codes "\r\n") ++ rest ≡ (codes "SIP/2.0" ++ 32 ∷ (digits ++ 32 ∷ reason)) ++ 13 ∷ 10 ∷ rest
status_joined digits reason rest = simp append_assoc

four_joined : (a b c d : List ℕ) → a ++ b ++ c ++ d ≡ a ++ (b ++ c ++ d)
four_joined a b c d = simp append_assoc

module _ (r : Response) (w : IsWrittenResponse r) where
  abbrev status_text : List ℕ
  status_text = codes "SIP/2.0" ++ 32 ∷ (decimal r.status ++ 32 ∷ r.reason)

  status_is : IsStartLine status_text (start_of_response r)
  status_is = record {
    version = codes "SIP/2.0";
    form = record { digits = decimal r.status; whole = refl; begins = refl; unbroken = refl; reads = status_again r.status w.three_digits w.up_to_699 };
    sip_2 = refl;
  }

  status_clean : is_clean status_text ≡ true
  status_clean =
      let token : list_all is_token_byte (decimal r.status) ≡ true = digits_token (decimal r.status) (decimal_digits r.status (omega (arith, w.up_to_699))) in
      clean_joined (codes "SIP/2.0") (32 ∷ (decimal r.status ++ 32 ∷ r.reason)) refl (clean_joined (32 ∷ decimal r.status) (32 ∷ r.reason) (token_clean (decimal r.status) token) w.clean)

  abbrev rest : List ℕ
  rest = headers_text r.headers ++ length_text r.body ++ r.body

  rest_is : rest ≡ headers_text (fields (start_of_response r) r.headers r.parts w.hops r.body w.rest) ++ 13 ∷ 10 ∷ r.body
  rest_is = rw (headers_joined r.headers (length_header r.body)) (simp append_assoc)

  answer_is : message_text (Kinds.Response r) ≡ status_text ++ 13 ∷ 10 ∷ (headers_text (fields (start_of_response r) r.headers r.parts w.hops r.body w.rest) ++ 13 ∷ 10 ∷ r.body)
  unfolding message_text
  answer_is =
      four_joined (status_line r) (headers_text r.headers) (length_text r.body) r.body
      ∙ status_joined (decimal r.status) r.reason rest
      ∙ ap (λ (t : List ℕ). status_text ++ 13 ∷ 10 ∷ t) rest_is

  response_reads : ReadsResponse (message_text (Kinds.Response r)) r
  response_reads = record {
    fields = fields (start_of_response r) r.headers r.parts w.hops r.body w.rest;
    raw = r.body;
    hops = w.hops;
    opens = opened (start_of_response r) r.headers r.parts w.hops r.body w.rest status_text (message_text (Kinds.Response r)) answer_is status_clean status_is;
    says = said (start_of_response r) r.headers r.parts w.hops r.body w.rest;
    headers = headers_same (start_of_response r) r.headers r.parts w.hops r.body w.rest;
  }

-- what is written for a message of the written form is that message
pub message_reads : (m : Message) → IsWrittenMessage m → ReadsMessage (message_text m) m
unfolding IsWrittenMessage
message_reads (Kinds.Request r) w = request_reads r w
message_reads (Kinds.Response r) w = response_reads r w
