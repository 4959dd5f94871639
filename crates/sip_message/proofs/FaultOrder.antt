-- The faults that header fields and body can have.
use Rattle.std.proofs.Common.{ℕ, Bool, true, false, cond, leb, List, [], ◌∷◌, length, take, Option, Some, None, Result, Ok, Err, codes}
use Rattle.std.specs.Char.{is_ascii_digit}
use Rattle.text.specs.Class.{is_run_of}
use Rattle.text.specs.Number.{number_upto}
use Rattle.sip_uri.specs.declared.uri.NameAddr.{NameAddr}
use Rattle.sip_message.specs.declared.contact.ContactValue.{ContactValue}
use Rattle.sip_message.specs.declared.cseq.CSeq.{CSeq}
use Rattle.sip_message.specs.declared.header_names.HeaderName.{HeaderName}
use Rattle.sip_message.specs.declared.header_names.HeaderName.TheVariants as Names
use Rattle.sip_message.specs.declared.error.MessageError.{MessageError}
use Rattle.sip_message.specs.declared.error.MessageError.TheVariants.{OutOfMemory, StartLine, Version, HeaderLine, Missing, Unreadable, Short, TooLong}
use Rattle.header_fields.specs.declared.headers.Header.{Header}
use Rattle.sip_message.specs.declared.contact.ContactNeed.{ContactNeed}
use Rattle.sip_message.specs.declared.contact.ContactNeed.TheVariants.{One, AtMostOne, Unlooked}
use Rattle.sip_message.specs.declared.start.Start.{Start}
use Rattle.sip_message.specs.Contact.{contacts_of, contact_need, is_one_address, is_one_address_at_most}
use Rattle.sip_message.specs.CSeq.{cseq_of}
use Rattle.sip_message.specs.Faults.{and_then, readable}
use Rattle.sip_message.specs.CallId.{is_call_id}
use Rattle.sip_message.specs.MediaType.{is_media_type}
use Rattle.sip_message.specs.MaxForwards.{max_forwards_of}
use Rattle.sip_message.specs.Lookup.{values_named, at_most_one, exactly_one}
use Rattle.sip_message.specs.Party.{party_of}
use Rattle.sip_message.specs.Read.{contents_of}
use Rattle.sip_message.specs.Via.{each_via, via_texts, some_vias}
use Rattle.sip_message.specs.Values.{if_tagged, with_text, from_for, to_of, call_id_of, of_method, with_number, cseq_for, one_address, contacts_for, contact_for, hops_by, hops_of, type_by, type_of, ends_for, parts_of, hops_behind, values_of}
use Rattle.sip_message.specs.ContentLength.{max_content_length, long_enough, body_by, body_of}

-- a fault of header fields or body
abbrev pub IsContentsFault : MessageError → Type 0
IsContentsFault OutOfMemory = ⊥
IsContentsFault StartLine = ⊥
IsContentsFault Version = ⊥
IsContentsFault HeaderLine = ⊥
IsContentsFault (Missing name) = Unit {0}
IsContentsFault (Unreadable name) = Unit {0}
IsContentsFault Short = Unit {0}
IsContentsFault TooLong = ⊥

abbrev pub FaultFits : {X : Type 0} → Result X MessageError → Type 0
FaultFits (Ok x) = Unit {0}
FaultFits (Err e) = IsContentsFault e

then_fits : {X Y : Type 0} (r : Result X MessageError) (next : X → Result Y MessageError) → FaultFits r → ((x : X) → FaultFits (next x)) → FaultFits (and_then r next)
then_fits (Ok x) next h more = more x
then_fits (Err e) next h more = h

readable_fits : {X : Type 0} (name : HeaderName) (o : Option X) → FaultFits (readable name o)
readable_fits name None = tt
readable_fits name (Some x) = tt

exactly_fits : (name : HeaderName) (values : List (List ℕ)) → FaultFits (exactly_one name values)
exactly_fits name [] = tt
exactly_fits name (v ∷ []) = tt
exactly_fits name (v ∷ w ∷ more) = tt

at_most_fits : (name : HeaderName) (values : List (List ℕ)) → FaultFits (at_most_one name values)
at_most_fits name [] = tt
at_most_fits name (v ∷ []) = tt
at_most_fits name (v ∷ w ∷ more) = tt

-- a value or a fault, by a test
abbrev pub or_unreadable : {X : Type 0} → HeaderName → Bool → X → Result X MessageError
or_unreadable name b x = cond b (Ok x) (Err (Unreadable name))

test_fits : {X : Type 0} (name : HeaderName) (b : Bool) (x : X) → FaultFits (or_unreadable name b x)
test_fits name true x = tt
test_fits name false x = tt

text_fits : (text : List ℕ) (r : Result NameAddr MessageError) → FaultFits r → FaultFits (with_text text r)
text_fits text (Ok name) h = tt
text_fits text (Err e) h = h

number_fits : (text : List ℕ) (r : Result CSeq MessageError) → FaultFits r → FaultFits (with_number text r)
number_fits text (Ok cseq) h = tt
number_fits text (Err e) h = h

vias_fit : (texts : List (List ℕ)) → FaultFits (some_vias texts)
vias_fit [] = tt
vias_fit (text ∷ texts) = readable_fits Names.Via (each_via (text ∷ texts))

from_fits : (start : Start) (fields : List Header) → FaultFits (from_for start fields)
from_fits start fields = then_fits (exactly_one Names.From (values_named (codes "From") fields)) _ (exactly_fits Names.From (values_named (codes "From") fields)) (λ text. text_fits text (readable Names.From (if_tagged start (party_of text))) (readable_fits Names.From (if_tagged start (party_of text))))

to_fits : (fields : List Header) → FaultFits (to_of fields)
to_fits fields = then_fits (exactly_one Names.To (values_named (codes "To") fields)) _ (exactly_fits Names.To (values_named (codes "To") fields)) (λ text. text_fits text (readable Names.To (party_of text)) (readable_fits Names.To (party_of text)))

call_id_fits : (fields : List Header) → FaultFits (call_id_of fields)
call_id_fits fields = then_fits (exactly_one Names.CallId (values_named (codes "Call-ID") fields)) _ (exactly_fits Names.CallId (values_named (codes "Call-ID") fields)) (λ text. test_fits Names.CallId (is_call_id text) text)

cseq_fits : (start : Start) (fields : List Header) → FaultFits (cseq_for start fields)
cseq_fits start fields = then_fits (exactly_one Names.CSeq (values_named (codes "CSeq") fields)) _ (exactly_fits Names.CSeq (values_named (codes "CSeq") fields)) (λ text. number_fits text (readable Names.CSeq (of_method start (cseq_of text))) (readable_fits Names.CSeq (of_method start (cseq_of text))))

address_fits : (values : List ContactValue) → FaultFits (one_address values)
address_fits [] = tt
address_fits (value ∷ values) = test_fits Names.Contact (is_one_address (value ∷ values)) tt

contact_fits : (start : Start) (method : List ℕ) (fields : List Header) → FaultFits (contact_for start method fields)
contact_fits start method fields = step (contact_need start method) where
  step : (need : ContactNeed) → FaultFits (contacts_for need (contacts_of fields))
  step One = address_fits (contacts_of fields)
  step AtMostOne = test_fits Names.Contact (is_one_address_at_most (contacts_of fields)) tt
  step Unlooked = tt

ends_fit : (start : Start) (fields : List Header) → FaultFits (ends_for start fields)
ends_fit start fields =
    then_fits (from_for start fields) _ (from_fits start fields) (λ from. then_fits (to_of fields) _ (to_fits fields) (λ to. tt))

parts_fit : (start : Start) (fields : List Header) → FaultFits (parts_of start fields)
unfolding parts_of
parts_fit start fields =
    then_fits (some_vias (via_texts fields)) _ (vias_fit (via_texts fields)) (λ vias.
    then_fits (ends_for start fields) _ (ends_fit start fields) (λ ends.
    then_fits (call_id_of fields) _ (call_id_fits fields) (λ call_id.
    then_fits (cseq_for start fields) _ (cseq_fits start fields) (λ cseq. tt))))

by_hops : (o : Option (List ℕ)) → FaultFits (hops_by o)
by_hops None = tt
by_hops (Some text) = readable_fits Names.MaxForwards (max_forwards_of text)

hops_fit : (fields : List Header) → FaultFits (hops_of fields)
hops_fit fields = then_fits (at_most_one Names.MaxForwards (values_named (codes "Max-Forwards") fields)) hops_by (at_most_fits Names.MaxForwards (values_named (codes "Max-Forwards") fields)) by_hops

by_type : (o : Option (List ℕ)) → FaultFits (type_by o)
by_type None = tt
by_type (Some text) = test_fits Names.ContentType (is_media_type text) (Some text)

type_fits : (fields : List Header) → FaultFits (type_of fields)
type_fits fields = then_fits (at_most_one Names.ContentType (values_named (codes "Content-Type") fields)) type_by (at_most_fits Names.ContentType (values_named (codes "Content-Type") fields)) by_type

behind_fit : (start : Start) (method : List ℕ) (fields : List Header) → FaultFits (hops_behind start method fields)
behind_fit start method fields =
    then_fits (contact_for start method fields) _ (contact_fits start method fields) (λ contact.
    then_fits (hops_of fields) _ (hops_fit fields) (λ hops.
    then_fits (type_of fields) _ (type_fits fields) (λ content_type. tt)))

values_fit : (start : Start) (fields : List Header) → FaultFits (values_of start fields)
unfolding values_of
values_fit start fields =
    then_fits (parts_of start fields) _ (parts_fit start fields) (λ parts.
    then_fits (hops_behind start parts.cseq.method fields) _ (behind_fit start parts.cseq.method fields) (λ hops. tt))

-- a text or a fault, by a test
abbrev or_short : Bool → List ℕ → Result (List ℕ) MessageError
or_short b text = cond b (Ok text) (Err Short)

length_fits : (o : Option ℕ) (raw : List ℕ) → FaultFits (long_enough o raw)
length_fits None raw = tt
length_fits (Some n) raw = step (leb n (length raw)) where
  step : (b : Bool) → FaultFits (or_short b (take n raw))
  step true = tt
  step false = tt

by_length : (raw : List ℕ) (o : Option (List ℕ)) → FaultFits (body_by raw o)
by_length raw None = tt
by_length raw (Some text) = step (is_run_of is_ascii_digit text) where
  step : (b : Bool) → FaultFits (cond b (long_enough (number_upto max_content_length text) raw) (Err (Unreadable Names.ContentLength)))
  step true = length_fits (number_upto max_content_length text) raw
  step false = tt

pub contents_fit : (start : Start) (fields : List Header) (raw : List ℕ) → FaultFits (contents_of start fields raw)
unfolding contents_of body_of
contents_fit start fields raw =
    then_fits (values_of start fields) _ (values_fit start fields) (λ values.
    then_fits (body_of fields raw) _ (then_fits (at_most_one Names.ContentLength (values_named (codes "Content-Length") fields)) (body_by raw) (at_most_fits Names.ContentLength (values_named (codes "Content-Length") fields)) (by_length raw)) (λ body. tt))
