-- What the header fields of a message say (RFC 3261 sections 8.1.1 and 20), and the first fault of those that say
-- nothing.
use Rattle.std.specs.Prelude.{ℕ, List, [], ◌∷◌, codes, Option, Some, None, Result, Ok, Err, if◌then◌else◌}
use Rattle.sip_uri.specs.declared.uri.NameAddr.{NameAddr}
use Rattle.sip_message.specs.Hops.{usual_hops}
use Rattle.sip_message.specs.declared.header_names.HeaderName.TheVariants as Names
use Rattle.sip_message.specs.declared.error.MessageError.{MessageError}
use Rattle.sip_message.specs.declared.error.MessageError.TheVariants.{Missing, Unreadable}
use Rattle.header_fields.specs.declared.headers.Header.{Header}
use Rattle.sip_message.specs.declared.contact.ContactNeed.{ContactNeed}
use Rattle.sip_message.specs.declared.contact.ContactNeed.TheVariants.{One, AtMostOne, Unlooked}
use Rattle.sip_message.specs.declared.cseq.CSeq.{CSeq}
use Rattle.sip_message.specs.declared.via.Via.{Via}
use Rattle.sip_message.specs.declared.message.Parts.{Parts}
use Rattle.sip_message.specs.declared.party.Ends.{Ends}
use Rattle.sip_message.specs.declared.party.Party.{Party}
use Rattle.sip_message.specs.declared.cseq.Sequence.{Sequence}
use Rattle.sip_message.specs.declared.values.Values.{Values}
use Rattle.sip_message.specs.declared.contact.ContactValue.{ContactValue}
use Rattle.sip_message.specs.declared.start.Start.{Start}
use Rattle.sip_message.specs.Contact.{contacts_of, contact_need, is_one_address, is_one_address_at_most}
use Rattle.sip_message.specs.CSeq.{cseq_of, is_method_for}
use Rattle.sip_message.specs.Faults.{and_then, readable}
use Rattle.sip_message.specs.CallId.{is_call_id}
use Rattle.sip_message.specs.MediaType.{is_media_type}
use Rattle.sip_message.specs.MaxForwards.{max_forwards_of}
use Rattle.sip_message.specs.Lookup.{values_named, at_most_one, exactly_one}
use Rattle.sip_message.specs.Party.{is_tagged_for, party_of}
use Rattle.sip_message.specs.Via.{via_texts, some_vias}

-- ---- each header field

abbrev pub tagged : Start → NameAddr → Option NameAddr
tagged start name = if is_tagged_for start name.params then Some name else None

abbrev pub if_tagged : Start → Option NameAddr → Option NameAddr
if_tagged start None = None
if_tagged start (Some name) = tagged start name

abbrev pub with_text : List ℕ → Result NameAddr MessageError → Result Party MessageError
with_text text (Ok name) = Ok (record { text = text; name = name })
with_text text (Err e) = Err e

-- From occurs once, and has a tag in a request
abbrev pub from_for : Start → List Header → Result Party MessageError
from_for start headers =
    and_then (exactly_one Names.From (values_named (codes "From") headers)) (λ text. with_text text (readable Names.From (if_tagged start (party_of text))))

-- To occurs once
abbrev pub to_of : List Header → Result Party MessageError
to_of headers = and_then (exactly_one Names.To (values_named (codes "To") headers)) (λ text. with_text text (readable Names.To (party_of text)))

abbrev pub call_id_of : List Header → Result (List ℕ) MessageError
call_id_of headers =
    and_then (exactly_one Names.CallId (values_named (codes "Call-ID") headers)) (λ text. if is_call_id text then Ok text else Err (Unreadable Names.CallId))

abbrev pub of_method : Start → Option CSeq → Option CSeq
of_method start None = None
of_method start (Some cseq) = if is_method_for start cseq.method then Some cseq else None

abbrev pub with_number : List ℕ → Result CSeq MessageError → Result Sequence MessageError
with_number text (Ok cseq) = Ok (record { text = text; cseq = cseq })
with_number text (Err e) = Err e

-- CSeq occurs once, and its method is a request's own
abbrev pub cseq_for : Start → List Header → Result Sequence MessageError
cseq_for start headers =
    and_then (exactly_one Names.CSeq (values_named (codes "CSeq") headers)) (λ text. with_number text (readable Names.CSeq (of_method start (cseq_of text))))

abbrev pub one_address : List ContactValue → Result (Unit {0}) MessageError
one_address [] = Err (Missing Names.Contact)
one_address (value ∷ values) = if is_one_address (value ∷ values) then Ok tt else Err (Unreadable Names.Contact)

abbrev pub contacts_for : ContactNeed → List ContactValue → Result (Unit {0}) MessageError
contacts_for One values = one_address values
contacts_for AtMostOne values = if is_one_address_at_most values then Ok tt else Err (Unreadable Names.Contact)
contacts_for Unlooked values = Ok tt

-- Contact has one value, an address, if the message needs one, and at most one if it may have one; otherwise it isn't
-- checked
abbrev pub contact_for : Start → List ℕ → List Header → Result (Unit {0}) MessageError
contact_for start method headers = contacts_for (contact_need start method) (contacts_of headers)

abbrev pub hops_by : Option (List ℕ) → Result ℕ MessageError
hops_by None = Ok usual_hops
hops_by (Some text) = readable Names.MaxForwards (max_forwards_of text)

-- Max-Forwards occurs at most once; the usual hops if it is absent (section 8.1.1.6)
abbrev pub hops_of : List Header → Result ℕ MessageError
hops_of headers = and_then (at_most_one Names.MaxForwards (values_named (codes "Max-Forwards") headers)) hops_by

abbrev pub type_by : Option (List ℕ) → Result (Option (List ℕ)) MessageError
type_by None = Ok None
type_by (Some text) = if is_media_type text then Ok (Some text) else Err (Unreadable Names.ContentType)

-- Content-Type occurs at most once
abbrev pub type_of : List Header → Result (Option (List ℕ)) MessageError
type_of headers = and_then (at_most_one Names.ContentType (values_named (codes "Content-Type") headers)) type_by

-- ---- all

abbrev pub ends_for : Start → List Header → Result Ends MessageError
ends_for start headers = and_then (from_for start headers) (λ from. and_then (to_of headers) (λ to. Ok (record { from = from; to = to })))

abbrev pub parts_with : List Via → Party → Party → List ℕ → Sequence → Parts
parts_with vias from to call_id cseq = record {
  vias = vias;
  from = from.name;
  to = to.name;
  call_id = call_id;
  cseq = cseq.cseq;
  from_text = from.text;
  to_text = to.text;
  cseq_text = cseq.text;
}

unfoldable pub parts_of : Start → List Header → Result Parts MessageError
parts_of start headers =
    and_then (some_vias (via_texts headers)) (λ vias.
    and_then (ends_for start headers) (λ ends.
    and_then (call_id_of headers) (λ call_id.
    and_then (cseq_for start headers) (λ cseq.
    Ok (parts_with vias ends.from ends.to call_id cseq)))))

-- the hops, if Contact, Max-Forwards and Content-Type can be read
abbrev pub hops_behind : Start → List ℕ → List Header → Result ℕ MessageError
hops_behind start method headers =
    and_then (contact_for start method headers) (λ contact. and_then (hops_of headers) (λ hops. and_then (type_of headers) (λ content_type. Ok hops)))

unfoldable pub values_of : Start → List Header → Result Values MessageError
values_of start headers =
    and_then (parts_of start headers) (λ parts.
    and_then (hops_behind start parts.cseq.method headers) (λ hops.
    Ok (record { parts = parts; max_forwards = hops })))
