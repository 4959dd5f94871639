-- What was read of a request can be repeated.
use Rattle.std.proofs.Common.{◌≡◌, ℕ, Bool, true, false, cond, List, [], ◌∷◌, map, Option, Some, None, Result, Ok, Err, refl, sym, ap, subst, ◌∙◌, codes}
use Rattle.std.specs.Prelude.{filter, find, option_map, IfOk}
use Rattle.std.specs.List.{list_all, flat_map, AllByRecursion}
use Rattle.std.proofs.lemmas.Bool.{and_parts, and_from}
use Rattle.std.proofs.lemmas.List.Folds.{list_all-append}
use Rattle.text.specs.Pieces.{pieces}
use Rattle.text.specs.declared.split.Within.TheVariants.{Nothing}
use Rattle.text.proofs.Lists.{some_then}
use Rattle.sip_uri.specs.declared.uri.NameAddr.{NameAddr}
use Rattle.sip_message.specs.declared.cseq.CSeq.{CSeq}
use Rattle.sip_message.specs.declared.cseq.Sequence.{Sequence}
use Rattle.sip_message.specs.declared.error.MessageError.{MessageError}
use Rattle.header_fields.specs.declared.headers.Header.{Header}
use Rattle.sip_message.specs.declared.message.Message.{Message}
use Rattle.sip_message.specs.declared.message.Message.TheVariants as Kinds
use Rattle.sip_message.specs.declared.message.Parts.{Parts}
use Rattle.sip_message.specs.declared.party.Ends.{Ends}
use Rattle.sip_message.specs.declared.party.Party.{Party}
use Rattle.sip_message.specs.declared.start.Start.{Start}
use Rattle.sip_message.specs.declared.via.Via.{Via}
use Rattle.sip_message.specs.AnswerableParts.{vias_there, party_at, first_party, if_call_id, first_call_id, sequence_at, first_sequence, first_ends, parts_among}
use Rattle.header_fields.specs.Lines.{ended_lines, is_clean}
use Rattle.sip_message.specs.CSeq.{cseq_of}
use Rattle.header_fields.specs.Fields.{RawField, fields_of, is_raw_field, field_of, readable_headers}
use Rattle.sip_message.specs.CallId.{is_call_id}
use Rattle.sip_message.specs.Grammar.{SaysParts, ReadsMessage, IsWithin}
use Rattle.sip_message.specs.Lookup.{is_named, first_named, value_named, values_named}
use Rattle.sip_message.specs.Party.{party_of}
use Rattle.sip_message.specs.Repeatable.{IsValue, CanBeRepeated, IfRepeatable, parts_in}
use Rattle.sip_message.specs.Via.{via_texts, via_of}
use Rattle.sip_message.specs.Values.{parts_with}
use Rattle.sip_message.specs.Written.{is_written}
use Rattle.sip_message.proofs.CleanLaws.{clean_pieces}
use Rattle.sip_message.proofs.WrittenLaws.{written_is}
use Rattle.sip_message.proofs.ReadWritten.{field_written, read_is_written}
use Rattle.sip_message.proofs.SaysLaws.{vias_are}

-- ---- values of header fields that were read

value_is : (h : Header) → is_written h ≡ true → IsValue h.value
value_is h e = let w = written_is h e in record { clean = w.clean; ends = w.trim }

values_are : (name : List ℕ) (hs : List Header) → list_all is_written hs ≡ true → AllByRecursion IsValue (values_named name hs)
values_are name [] e = tt
values_are name (h ∷ hs) e = let parts = and_parts (is_written h) (list_all is_written hs) e in step (is_named name h) (value_is h parts.0) (values_are name hs parts.1) where
  step : (b : Bool) → IsValue h.value → AllByRecursion IsValue (values_named name hs) → AllByRecursion IsValue (map (λ (x : Header). x.value) (cond b (h ∷ filter (is_named name) hs) (filter (is_named name) hs)))
  step true k more = (k, more)
  step false k more = more

one_value : (name : List ℕ) (hs : List Header) (text : List ℕ) → list_all is_written hs ≡ true → values_named name hs ≡ text ∷ [] → IsValue text
one_value name hs text e one = (subst (λ (vs : List (List ℕ)). AllByRecursion IsValue vs) one (values_are name hs e)).0

pieces_clean : (values : List (List ℕ)) → AllByRecursion IsValue values → list_all is_clean (flat_map (λ value. pieces 44 Nothing value) values) ≡ true
pieces_clean [] h = refl
pieces_clean (value ∷ values) h =
    list_all-append is_clean (pieces 44 Nothing value) (flat_map (λ v. pieces 44 Nothing v) values) ∙ and_from _ _ (clean_pieces 44 Nothing value h.0.clean) (pieces_clean values h.1)

-- ---- a message

says_repeatable : (start : Start) (fields : List Header) (parts : Parts) → SaysParts start fields parts → list_all is_written fields ≡ true → CanBeRepeated parts
says_repeatable start fields parts s e = record {
  some_via = s.some_via;
  via_texts = via_texts fields;
  vias_clean = pieces_clean (values_named (codes "Via") fields) (values_are (codes "Via") fields e);
  each_via = s.each_via;
  from_value = one_value (codes "From") fields parts.from_text e s.one_from;
  from = s.from;
  to_value = one_value (codes "To") fields parts.to_text e s.one_to;
  to = s.to;
  call_id_value = one_value (codes "Call-ID") fields parts.call_id e s.one_call_id;
  call_id = s.call_id;
  cseq_value = one_value (codes "CSeq") fields parts.cseq_text e s.one_cseq;
  cseq = s.cseq;
}

reads_repeatable : (text : List ℕ) (m : Message) → ReadsMessage text m → CanBeRepeated (parts_in m)
reads_repeatable text (Kinds.Request r) reads = says_repeatable _ reads.fields r.parts reads.says.says_parts (read_is_written reads.opens.rest reads.fields reads.raw reads.opens.head)
reads_repeatable text (Kinds.Response r) reads = says_repeatable _ reads.fields r.parts reads.says.says_parts (read_is_written reads.opens.rest reads.fields reads.raw reads.opens.head)

pub repeatable_at : (text : List ℕ) (r : Result Message MessageError) → IfOk r (λ m. (reads : ReadsMessage text m) × IsWithin text m reads) → IfOk r (λ m. CanBeRepeated (parts_in m))
repeatable_at text (Ok m) h = reads_repeatable text m h.0
repeatable_at text (Err e) h = tt

-- ---- a request that can't be read

some_map : {A B : Type 0} (o : Option A) (f : A → B) (y : B) → option_map f o ≡ Some y → (x : A) × (o ≡ Some x) × (f x ≡ y)
some_map (Some x) f y e = (x, refl, cc)
some_map None f y e = absurd cc

vias_some : (texts : List (List ℕ)) (vias : List Via) → vias_there texts ≡ Some vias → (vias ≡ [] → ⊥) × (map via_of texts ≡ map (λ via. Some via) vias)
vias_some [] vias e = absurd cc
vias_some (text ∷ texts) vias e = let each = vias_are (text ∷ texts) vias e in (λ none. (let k : map via_of (text ∷ texts) ≡ [] = each ∙ ap (map (λ (v : Via). Some v)) none in cc), each)

first_written : (name : List ℕ) (hs : List Header) (h : Header) → list_all is_written hs ≡ true → first_named name hs ≡ Some h → is_written h ≡ true
first_written name [] h e k = absurd cc
first_written name (x ∷ hs) h e k = let parts = and_parts (is_written x) (list_all is_written hs) e in step (is_named name x) k parts.0 (λ f. first_written name hs h parts.1 f) where
  step : (b : Bool) → cond b (Some x) (find (is_named name) hs) ≡ Some h → is_written x ≡ true → (first_named name hs ≡ Some h → is_written h ≡ true) → is_written h ≡ true
  step true f w more = let same : x ≡ h = cc in subst (λ (y : Header). is_written y ≡ true) same w
  step false f w more = more f

value_written : (name : List ℕ) (hs : List Header) (text : List ℕ) → list_all is_written hs ≡ true → value_named name hs ≡ Some text → IsValue text
value_written name hs text e k =
    let m = some_map (first_named name hs) (λ (h : Header). h.value) text k in
    subst (λ (t : List ℕ). IsValue t) m.2 (value_is m.0 (first_written name hs m.0 e m.1))

-- a party, a Call-ID and a number that were found
record IsParty (party : Party) : Type 0 where
  value : IsValue party.text
  reads : party_of party.text ≡ Some party.name

party_is : (name : List ℕ) (hs : List Header) (party : Party) → list_all is_written hs ≡ true → first_party name hs ≡ Some party → IsParty party
party_is name hs party e k =
    let v = some_then (value_named name hs) party_at party k in
    let p = some_map (party_of v.0) (λ (n : NameAddr). record { text = v.0; name = n }) party v.2 in
    subst (λ (x : Party). IsParty x) p.2 (record { value = value_written name hs v.0 e v.1; reads = p.1 })

call_id_is : (hs : List Header) (id : List ℕ) → list_all is_written hs ≡ true → first_call_id hs ≡ Some id → IsValue id × (is_call_id id ≡ true)
call_id_is hs id e k = let v = some_then (value_named (codes "Call-ID") hs) if_call_id id k in step (is_call_id v.0) refl v.2 (value_written (codes "Call-ID") hs v.0 e v.1) where
  step : {text : List ℕ} (b : Bool) → is_call_id text ≡ b → cond b (Some text) None ≡ Some id → IsValue text → IsValue id × (is_call_id id ≡ true)
  step {text} true f g w = let same : text ≡ id = cc in subst (λ (t : List ℕ). IsValue t × (is_call_id t ≡ true)) same (w, f)
  step false f g w = absurd cc

record IsSequence (sequence : Sequence) : Type 0 where
  value : IsValue sequence.text
  reads : cseq_of sequence.text ≡ Some sequence.cseq

sequence_is : (hs : List Header) (sequence : Sequence) → list_all is_written hs ≡ true → first_sequence hs ≡ Some sequence → IsSequence sequence
sequence_is hs sequence e k =
    let v = some_then (value_named (codes "CSeq") hs) sequence_at sequence k in
    let s = some_map (cseq_of v.0) (λ (c : CSeq). record { text = v.0; cseq = c }) sequence v.2 in
    subst (λ (x : Sequence). IsSequence x) s.2 (record { value = value_written (codes "CSeq") hs v.0 e v.1; reads = s.1 })

abbrev both_ends : Party → Party → Ends
both_ends from to = record { from = from; to = to }

among_repeatable : (hs : List Header) (parts : Parts) → list_all is_written hs ≡ true → parts_among hs ≡ Some parts → CanBeRepeated parts
unfolding parts_among
among_repeatable hs parts e k =
    let vias = some_then (vias_there (via_texts hs)) _ parts k in
    let ends = some_then (first_ends hs) _ parts vias.2 in
    let from = some_then (first_party (codes "From") hs) _ ends.0 ends.1 in
    let to = some_map (first_party (codes "To") hs) (both_ends from.0) ends.0 from.2 in
    let call_id = some_then (first_call_id hs) _ parts ends.2 in
    let cseq = some_map (first_sequence hs) (λ (s : Sequence). parts_with vias.0 ends.0.from ends.0.to call_id.0 s) parts call_id.2 in
    let v = vias_some (via_texts hs) vias.0 vias.1 in
    let f = party_is (codes "From") hs from.0 e from.1 in
    let t = party_is (codes "To") hs to.0 e to.1 in
    let c = call_id_is hs call_id.0 e call_id.1 in
    let s = sequence_is hs cseq.0 e cseq.1 in
    subst (λ (p : Parts). CanBeRepeated p) (ap (λ (e : Ends). parts_with vias.0 e.from e.to call_id.0 cseq.0) to.2 ∙ cseq.2) (record {
      some_via = v.0;
      via_texts = via_texts hs;
      vias_clean = pieces_clean (values_named (codes "Via") hs) (values_are (codes "Via") hs e);
      each_via = v.1;
      from_value = f.value;
      from = f.reads;
      to_value = t.value;
      to = t.reads;
      call_id_value = c.0;
      call_id = c.1;
      cseq_value = s.value;
      cseq = s.reads;
    })

readable_written : (fields : List RawField) → list_all is_written (map field_of (filter is_raw_field fields)) ≡ true
readable_written [] = refl
readable_written (f ∷ fields) = step (is_raw_field f) refl (readable_written fields) where
  step : (b : Bool) → is_raw_field f ≡ b → list_all is_written (map field_of (filter is_raw_field fields)) ≡ true → list_all is_written (map field_of (cond b (f ∷ filter is_raw_field fields) (filter is_raw_field fields))) ≡ true
  step true k more = and_from _ _ (field_written f k) more
  step false k more = more

if_repeatable : (o : Option Parts) → ((parts : Parts) → o ≡ Some parts → CanBeRepeated parts) → IfRepeatable o
if_repeatable None h = tt
if_repeatable (Some parts) h = h parts refl

pub behind_at : {E : Type 0} (rest : List ℕ) (r : Result (Option Parts) E) → IfOk r (λ parts. parts ≡ parts_among (readable_headers (ended_lines rest))) → IfOk r (λ parts. IfRepeatable parts)
behind_at rest (Ok o) h =
    if_repeatable o (λ parts e. among_repeatable (readable_headers (ended_lines rest)) parts (readable_written (fields_of (ended_lines rest))) (sym h ∙ e))
behind_at rest (Err e) h = tt
