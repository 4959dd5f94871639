-- Headers that are looked up by name, ignoring case (RFC 3261 section 7.3.1); some of them may occur at most once.
use Rattle.std.specs.Prelude.{◌≡◌, ℕ, List, [], ◌∷◌, codes, Option, Some, None, Result, Ok, Err}
use Rattle.sip_message.specs.declared.header_names.HeaderName.{HeaderName}
use Rattle.sip_message.specs.declared.error.MessageError.{MessageError}
use Rattle.sip_message.specs.declared.error.MessageError.TheVariants.{Missing, Unreadable}
use Rattle.header_fields.specs.declared.headers.Header.{Header}
use Rattle.sip_message.specs.HeaderNames.{name_text}
use Rattle.sip_message.specs.declared.lookup.Found.{Found}
use Rattle.sip_message.specs.Seen.{Standing, absent, single, repeated, standing_of, seen}
pub use Rattle.header_fields.specs.Lookup.{named, is_named, first_named, value_named, values_named}

-- a header field that occurs at most once: twice is a fault of its value
abbrev pub at_most_one : HeaderName → List (List ℕ) → Result (Option (List ℕ)) MessageError
at_most_one which [] = Ok None
at_most_one which (v ∷ []) = Ok (Some v)
at_most_one which (v ∷ w ∷ vs) = Err (Unreadable which)

-- a header field that occurs once
abbrev pub exactly_one : HeaderName → List (List ℕ) → Result (List ℕ) MessageError
exactly_one which [] = Err (Missing which)
exactly_one which (v ∷ []) = Ok v
exactly_one which (v ∷ w ∷ vs) = Err (Unreadable which)

-- the same of header fields
abbrev pub one_named_at_most : HeaderName → List Header → Result (Option (List ℕ)) MessageError
one_named_at_most which headers = at_most_one which (values_named (name_text which) headers)

abbrev pub one_named : HeaderName → List Header → Result (List ℕ) MessageError
one_named which headers = exactly_one which (values_named (name_text which) headers)

-- the same of what is there
abbrev pub one_seen_at_most : HeaderName → Standing → Result (Option (List ℕ)) MessageError
one_seen_at_most which absent = Ok None
one_seen_at_most which (single v) = Ok (Some v)
one_seen_at_most which repeated = Err (Unreadable which)

abbrev pub one_seen : HeaderName → Standing → Result (List ℕ) MessageError
one_seen which absent = Err (Missing which)
one_seen which (single v) = Ok v
one_seen which repeated = Err (Unreadable which)

-- the header fields that may occur once, as they occur among these
pub record IsFound (found : Found) : Type 0 where
  pub from : seen found.from ≡ standing_of (values_named (codes "From") found.headers.now)
  pub to : seen found.to ≡ standing_of (values_named (codes "To") found.headers.now)
  pub call_id : seen found.call_id ≡ standing_of (values_named (codes "Call-ID") found.headers.now)
  pub cseq : seen found.cseq ≡ standing_of (values_named (codes "CSeq") found.headers.now)
  pub max_forwards : seen found.max_forwards ≡ standing_of (values_named (codes "Max-Forwards") found.headers.now)
  pub content_type : seen found.content_type ≡ standing_of (values_named (codes "Content-Type") found.headers.now)
  pub content_length : seen found.content_length ≡ standing_of (values_named (codes "Content-Length") found.headers.now)
