-- The further header fields of the server's responses: each may follow those that a response has by itself.
use Rattle.std.proofs.Common.{◌≡◌, ℕ, ◌≤◌, ◌<◌, ◌^◌, Bool, true, false, not, cond, List, [], ◌∷◌, codes, decimal, refl, arith}
use Rattle.std.specs.Prelude.{nat_eq, nat_le}
use Rattle.std.specs.Cmp.Lexicographic.{pointwise}
use Rattle.std.proofs.lemmas.Bool.{and_from, and_right, lt-leb}
use Rattle.text.specs.Class.{is_blank}
use Rattle.sip_uri.specs.declared.uri.Addr.{Addr}
use Rattle.sip_uri.specs.FieldParams.{field_params_read}
use Rattle.sip_message.specs.declared.contact.ContactNeed.{ContactNeed}
use Rattle.sip_message.specs.declared.contact.ContactNeed.TheVariants.{One, AtMostOne, Unlooked}
use Rattle.sip_message.specs.declared.contact.ContactValue.{ContactValue}
use Rattle.sip_message.specs.declared.headers.Header.{Header}
use Rattle.sip_message.specs.declared.start.Start.{Start}
use Rattle.sip_message.specs.declared.start.Start.TheVariants.{Answering}
use Rattle.sip_message.specs.Contact.{contact_need, contacts_of, is_one_address, is_success, need_by_method}
use Rattle.sip_message.specs.Grammar.{SaysContact, SaysType}
use Rattle.sip_message.specs.HeaderNames.{long_name}
use Rattle.sip_message.specs.Lines.{is_text_byte}
use Rattle.sip_message.specs.Lookup.{is_named, values_named}
use Rattle.sip_message.specs.Written.{is_written}
use Rattle.sip_writing.specs.Further.{MayFollow, repeats_nothing}
use Rattle.sip_writing.specs.Reasons.{reason_of}
use Rattle.sip_writing.specs.WritingMessage.{tells_no_length}
use Rattle.registrar.specs.declared.refusal.Refusal.{Refusal}
use Rattle.registrar.specs.declared.refusal.Refusal.TheVariants.{TooBrief}
use Rattle.responses.specs.Responding.{allow, min_expires_header, refusal_headers}
use Rattle.call_messages.specs.Messages.{contact, content_type, description_headers, retry_after}
use Rattle.plans.specs.Replies.{accept, accept_encoding}
use Rattle.message_laws.specs.Addresses.{IsReached}
use Rattle.message_laws.proofs.TokenUse.ContactField.{bytes_same, contact_is_one, contact_written, solid_trimmed}
use Rattle.message_laws.proofs.TokenUse.TokenRuns.{decimal_passes}

-- ---- the status line of a response of the server's own

abbrev pub answering : ℕ → Start
answering status = Answering (record { status = status; reason = reason_of status })

-- what may follow in a response of this status to a request of this method
abbrev pub FollowsIn : ℕ → List ℕ → List Header → Type 0
FollowsIn status method further = MayFollow (answering status) method further

-- no Contact is needed there
abbrev pub NeedsNoContact : ℕ → List ℕ → Type 0
NeedsNoContact status method = SaysContact (contact_need (answering status) method) []

no_success : (status : ℕ) (method : List ℕ) → is_success status ≡ false → NeedsNoContact status method
no_success status method e = rw e tt

pub refusal_needs_none : (status : ℕ) (method : List ℕ) → 300 ≤ status → NeedsNoContact status method
refusal_needs_none status method low = no_success status method (and_right (nat_le 200 status) (nat_le status 299) (lt-leb status 299 (omega (arith, low))))

-- a method that is neither INVITE nor UPDATE
needs_none_by : (b : Bool) (method : List ℕ) → pointwise nat_eq method (codes "INVITE") ≡ false → pointwise nat_eq method (codes "UPDATE") ≡ false
    → SaysContact (cond b (need_by_method method) Unlooked) []
needs_none_by true method invite update = rw (invite, update) tt
needs_none_by false method invite update = tt

pub other_needs_none : (status : ℕ) (method : List ℕ) → pointwise nat_eq method (codes "INVITE") ≡ false → pointwise nat_eq method (codes "UPDATE") ≡ false → NeedsNoContact status method
other_needs_none status method invite update = needs_none_by (is_success status) method invite update

-- ---- no further header field

pub none_follows : (status : ℕ) (method : List ℕ) → NeedsNoContact status method → FollowsIn status method []
none_follows status method none = record { written = refl; repeat_nothing = refl; no_length = refl; says_contact = none; hops = 70; says_hops = refl; says_type = tt }

-- ---- one that says nothing of what reading looks at

pub record IsPlain (h : Header) : Type 0 where
  pub written : is_written h ≡ true
  pub repeats : repeats_nothing h ≡ true
  pub no_length : tells_no_length h ≡ true
  pub no_contact : is_named (codes "Contact") h ≡ false
  pub no_hops : is_named (codes "Max-Forwards") h ≡ false
  pub no_type : is_named (codes "Content-Type") h ≡ false

pub plain_follows : (status : ℕ) (method : List ℕ) (h : Header) → NeedsNoContact status method → IsPlain h → FollowsIn status method (h ∷ [])
plain_follows status method h none plain = record {
  written = and_from _ _ plain.written refl;
  repeat_nothing = and_from _ _ plain.repeats refl;
  no_length = and_from _ _ plain.no_length refl;
  says_contact = rw plain.no_contact none;
  hops = 70;
  says_hops = rw plain.no_hops refl;
  says_type = rw plain.no_type tt;
}

pub allow_plain : IsPlain allow
unfolding is_written long_name
allow_plain = record { written = refl; repeats = refl; no_length = refl; no_contact = refl; no_hops = refl; no_type = refl }

pub accept_plain : IsPlain accept
unfolding is_written long_name
accept_plain = record { written = refl; repeats = refl; no_length = refl; no_contact = refl; no_hops = refl; no_type = refl }

pub accept_encoding_plain : IsPlain accept_encoding
unfolding is_written long_name
accept_encoding_plain = record { written = refl; repeats = refl; no_length = refl; no_contact = refl; no_hops = refl; no_type = refl }

pub retry_after_plain : IsPlain retry_after
unfolding is_written long_name
retry_after_plain = record { written = refl; repeats = refl; no_length = refl; no_contact = refl; no_hops = refl; no_type = refl }

-- ---- where the server is reached, and the type of a description

contact_says_by : (need : ContactNeed) (values : List ContactValue) → is_one_address values ≡ true → SaysContact need values
contact_says_by One values h = h
contact_says_by AtMostOne [] h = refl
contact_says_by AtMostOne (value ∷ values) h = h
contact_says_by Unlooked values h = tt

pub contact_follows : (server : Addr) (status : ℕ) (method : List ℕ) → IsReached server → FollowsIn status method (contact server ∷ [])
contact_follows server status method reached = record {
  written = and_from _ _ (contact_written server reached) refl;
  repeat_nothing = refl;
  no_length = refl;
  says_contact = contact_says_by (contact_need (answering status) method) (contacts_of (contact server ∷ [])) (contact_is_one server reached);
  hops = 70;
  says_hops = refl;
  says_type = tt;
}

type_written : is_written content_type ≡ true
unfolding is_written long_name
type_written = refl

type_says : SaysType (values_named (codes "Content-Type") (content_type ∷ []))
unfolding field_params_read
type_says = refl

pub description_follows : (server : Addr) (status : ℕ) (method : List ℕ) → IsReached server → FollowsIn status method (description_headers server)
description_follows server status method reached = record {
  written = and_from _ _ (contact_written server reached) (and_from _ _ type_written refl);
  repeat_nothing = refl;
  no_length = refl;
  says_contact = contact_says_by (contact_need (answering status) method) (contacts_of (contact server ∷ [])) (contact_is_one server reached);
  hops = 70;
  says_hops = refl;
  says_type = type_says;
}

-- ---- how long a binding has to last at least

number_written : (seconds : ℕ) → seconds < 2 ^ 64 → is_written (min_expires_header seconds) ≡ true
unfolding is_written long_name
number_written seconds small =
    let clean = decimal_passes is_text_byte refl seconds small in
    let solid = decimal_passes (λ b. not (is_blank b)) refl seconds small in
    and_from _ _ (and_from _ _ refl clean) (bytes_same (solid_trimmed (decimal seconds) solid))

pub refusal_follows : (least status : ℕ) (method : List ℕ) (refusal : Refusal) → least < 2 ^ 64 → NeedsNoContact status method → FollowsIn status method (refusal_headers least refusal)
refusal_follows least status method TooBrief small none =
    plain_follows status method (min_expires_header least) none (record { written = number_written least small; repeats = refl; no_length = refl; no_contact = refl; no_hops = refl; no_type = refl })
refusal_follows least status method refusal small none = none_follows status method none
