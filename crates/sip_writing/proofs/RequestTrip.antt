-- The request of a sound draft is of the form that is written and read again.
use Rattle.std.proofs.Common.{◌≡◌, ℕ, ◌≤◌, true, not, ◌&&◌, eqb, List, [], ◌∷◌, ◌++◌, length, map, codes, Option, Some, Result, Ok, Err, refl, sym, ap, subst, ◌∙◌, append_assoc}
use Rattle.std.specs.Prelude.{decimal, IsTrue, IfOk}
use Rattle.std.specs.List.{flat_map, list_all, AllByRecursion}
use Rattle.std.proofs.lemmas.Bool.{and_parts, and_from}
use Rattle.text.specs.Class.{is_run_of, is_token_byte}
use Rattle.text.specs.Pieces.{pieces}
use Rattle.text.specs.declared.split.Within.TheVariants.{Nothing}
use Rattle.sip_uri.specs.declared.uri.NameAddr.{NameAddr}
use Rattle.sip_uri.specs.NameAddr.{name_addr_text}
use Rattle.sip_message.specs.declared.headers.Header.{Header}
use Rattle.sip_message.specs.declared.message.Message.TheVariants as Kinds
use Rattle.sip_message.specs.declared.message.Parts.{Parts}
use Rattle.sip_message.specs.declared.message.Request.{Request}
use Rattle.sip_message.specs.declared.via.Via.{Via}
use Rattle.sip_message.specs.Grammar.{SaysParts, SaysHops, start_of_request}
use Rattle.sip_message.specs.Lookup.{named, is_named, values_named}
use Rattle.sip_message.specs.HeaderNames.{long_name}
use Rattle.sip_message.specs.Party.{party_of, has_tag}
use Rattle.sip_message.specs.Repeatable.{IsValue}
use Rattle.sip_message.specs.Via.{via_of}
use Rattle.sip_message.specs.Written.{is_written}
use Rattle.sip_writing.specs.declared.requests.Draft.{Draft}
use Rattle.sip_writing.specs.Reply.{via_text}
use Rattle.sip_writing.specs.Requests.{tagged, cseq_text, parts_of, headers_with, request_of, IsEnd, is_further, IsSound}
use Rattle.sip_writing.specs.WritingMessage.{tells_no_length, IsWrittenRest, IsWrittenRequest, IsWrittenMessage}
use Rattle.sip_writing.proofs.AnswerTrip.{all_imply, none_named, written_with}
use Rattle.sip_writing.proofs.NameTrip.{tagged_is, tagged_value}
use Rattle.sip_writing.proofs.NumberTrip.{cseq_again, cseq_value, hops_again, hops_value}
use Rattle.sip_writing.proofs.ViaTrip.{IsVia, via_is, via_is_value, via_one_piece, via_again}
use Rattle.sip_message.proofs.ValueLaws.{text_same}

-- ---- further header fields

record Further (h : Header) : Type 0 where
  via : not (is_named (codes "Via") h) ≡ true
  hops : not (is_named (codes "Max-Forwards") h) ≡ true
  from : not (is_named (codes "From") h) ≡ true
  to : not (is_named (codes "To") h) ≡ true
  call_id : not (is_named (codes "Call-ID") h) ≡ true
  cseq : not (is_named (codes "CSeq") h) ≡ true
  length : tells_no_length h ≡ true

further_is : (h : Header) → is_further h ≡ true → Further h
further_is h e =
    let via = not (is_named (codes "Via") h) in
    let hops = not (is_named (codes "Max-Forwards") h) in
    let from = not (is_named (codes "From") h) in
    let to = not (is_named (codes "To") h) in
    let call_id = not (is_named (codes "Call-ID") h) in
    let cseq = not (is_named (codes "CSeq") h) in
    let a = and_parts (via && hops && from && to && call_id && cseq) (tells_no_length h) e in
    let b = and_parts (via && hops && from && to && call_id) cseq a.0 in
    let c = and_parts (via && hops && from && to) call_id b.0 in
    let d = and_parts (via && hops && from) to c.0 in
    let f = and_parts (via && hops) from d.0 in
    let g = and_parts via hops f.0 in
    record { via = g.0; hops = g.1; from = f.1; to = d.1; call_id = c.1; cseq = b.1; length = a.1 }

-- ---- the header fields of each request

via_written : (value : List ℕ) → IsValue value → is_written (named (codes "Via") value) ≡ true
unfolding long_name
via_written value h = written_with (codes "Via") value refl refl h

hops_written : (value : List ℕ) → IsValue value → is_written (named (codes "Max-Forwards") value) ≡ true
unfolding long_name
hops_written value h = written_with (codes "Max-Forwards") value refl refl h

call_id_written : (value : List ℕ) → IsValue value → is_written (named (codes "Call-ID") value) ≡ true
unfolding long_name
call_id_written value h = written_with (codes "Call-ID") value refl refl h

from_written : (value : List ℕ) → IsValue value → is_written (named (codes "From") value) ≡ true
unfolding long_name
from_written value h = written_with (codes "From") value refl refl h

to_written : (value : List ℕ) → IsValue value → is_written (named (codes "To") value) ≡ true
unfolding long_name
to_written value h = written_with (codes "To") value refl refl h

cseq_written : (value : List ℕ) → IsValue value → is_written (named (codes "CSeq") value) ≡ true
unfolding long_name
cseq_written value h = written_with (codes "CSeq") value refl refl h

-- ---- From and To

record IsWrittenEnd (name : NameAddr) : Type 0 where
  value : IsValue (name_addr_text name)
  reads : party_of (name_addr_text name) ≡ Some name

end_is : (name : NameAddr) → IsEnd name → IsWrittenEnd name
end_is name h =
    let same : tagged name h.tag ≡ name = rw (← h.tagged) refl in
    record {
      value = subst (λ (n : NameAddr). IsValue (name_addr_text n)) same (tagged_value name h.tag h.read h.token);
      reads = subst (λ (n : NameAddr). party_of (name_addr_text n) ≡ Some n) same (tagged_is name h.tag h.read h.token);
    }

-- ---- the whole

module _ (d : Draft) (hops : d.max_forwards ≤ 255) (sound : IsSound d) where
  abbrev via : Via
  via = d.via.now

  is_via : IsVia via
  is_via = via_is sound.via.text via sound.via.reads sound.via.clean

  abbrev from_text : List ℕ
  from_text = name_addr_text d.from.now

  abbrev to_text : List ℕ
  to_text = name_addr_text d.to.now

  abbrev cseq : List ℕ
  cseq = cseq_text d.number d.method.now

  abbrev more : List Header
  more = d.further.now

  abbrev fields : List Header
  fields =
      named (codes "Via") (via_text via) ∷ named (codes "Max-Forwards") (decimal d.max_forwards) ∷ named (codes "From") from_text ∷ named (codes "To") to_text
      ∷ named (codes "Call-ID") d.call_id.now ∷ named (codes "CSeq") cseq ∷ more

  abbrev parts : Parts
  parts = record {
    vias = via ∷ [];
    from = d.from.now;
    to = d.to.now;
    call_id = d.call_id.now;
    cseq = record { number = d.number; method = d.method.now };
    from_text = from_text;
    to_text = to_text;
    cseq_text = cseq;
  }

  abbrev request : Request
  request = record { method = d.method.now; uri = d.uri.now; parts = parts; max_forwards = d.max_forwards; headers = fields; body = d.body.now }

  from_is : IsWrittenEnd d.from.now
  from_is = end_is d.from.now sound.from

  to_is : IsWrittenEnd d.to.now
  to_is = end_is d.to.now sound.to

  none : (name : List ℕ) → ((h : Header) → is_further h ≡ true → not (is_named name h) ≡ true) → values_named name more ≡ []
  none name weaker = none_named name more (all_imply is_further (λ h. not (is_named name h)) weaker more sound.further)

  fields_written : list_all is_written fields ≡ true
  fields_written =
      and_from _ _ (via_written (via_text via) (via_is_value via is_via))
      (and_from _ _ (hops_written (decimal d.max_forwards) (hops_value d.max_forwards hops))
      (and_from _ _ (from_written from_text from_is.value)
      (and_from _ _ (to_written to_text to_is.value)
      (and_from _ _ (call_id_written d.call_id.now sound.call_id_value)
      (and_from _ _ (cseq_written cseq (cseq_value d.number d.method.now sound.number sound.method)) sound.further_written)))))

  parts_said : SaysParts (start_of_request request) fields parts
  parts_said = record {
    some_via = λ e. cc;
    each_via =
        ap (λ (vs : List (List ℕ)). map via_of (flat_map (λ v. pieces 44 Nothing v) (via_text via ∷ vs))) (none (codes "Via") (λ h e. (further_is h e).via))
        ∙ ap (λ (ps : List (List ℕ)). map via_of (ps ++ [])) (via_one_piece via is_via)
        ∙ ap (λ (v : Option Via). v ∷ []) (via_again via is_via);
    one_from = ap (λ (vs : List (List ℕ)). from_text ∷ vs) (none (codes "From") (λ h e. (further_is h e).from));
    from = from_is.reads;
    from_tag = sound.from_tag;
    one_to = ap (λ (vs : List (List ℕ)). to_text ∷ vs) (none (codes "To") (λ h e. (further_is h e).to));
    to = to_is.reads;
    one_call_id = ap (λ (vs : List (List ℕ)). d.call_id.now ∷ vs) (none (codes "Call-ID") (λ h e. (further_is h e).call_id));
    call_id = sound.call_id;
    one_cseq = ap (λ (vs : List (List ℕ)). cseq ∷ vs) (none (codes "CSeq") (λ h e. (further_is h e).cseq));
    cseq = cseq_again d.number d.method.now sound.number sound.method;
    cseq_method = text_same d.method.now d.method.now refl;
  }

  rest_written : IsWrittenRest (start_of_request request) fields parts d.max_forwards d.body.now
  rest_written = record {
    written = fields_written;
    no_length = all_imply is_further tells_no_length (λ h e. (further_is h e).length) more sound.further;
    says_parts = parts_said;
    says_contact = sound.contact;
    says_hops =
        subst (λ (vs : List (List ℕ)). SaysHops (decimal d.max_forwards ∷ vs) d.max_forwards) (sym (none (codes "Max-Forwards") (λ h e. (further_is h e).hops))) (hops_again d.max_forwards hops);
    says_type = sound.content_type;
    small = sound.body;
  }

  request_written : IsWrittenRequest request
  request_written = record { token = sound.method; uri_from = sound.uri_text; uri = sound.uri; rest = rest_written }

  request_is : request_of d ≡ request
  unfolding request_of headers_with parts_of
  request_is = refl

  message_written : IsWrittenMessage (Kinds.Request (request_of d))
  unfolding IsWrittenMessage
  message_written = subst (λ (r : Request). IsWrittenRequest r) (sym request_is) request_written

pub written_at : {E : Type 0} (r : Result Request E) (d : Draft) → d.max_forwards ≤ 255 → IfOk r (λ r. r ≡ request_of d) → IfOk r (λ r. IsSound d → IsWrittenMessage (Kinds.Request r))
written_at (Ok r) d hops h = λ sound. subst (λ (x : Request). IsWrittenMessage (Kinds.Request x)) (sym h) (message_written d hops sound)
written_at (Err e) d hops h = tt
