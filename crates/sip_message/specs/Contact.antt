-- The values of the Contact header fields (RFC 3261 sections 7.3.1 and 20.10).
use Rattle.std.specs.Prelude.{ℕ, Bool, true, false, ◌&&◌, nat_eq, nat_le, List, [], ◌∷◌, map, codes, Result, Ok, Err, if◌then◌else◌}
use Rattle.std.specs.List.{flat_map}
use Rattle.std.specs.Cmp.Lexicographic.{pointwise}
use Rattle.text.specs.Pieces.{pieces}
use Rattle.text.specs.Trim.{trimmed}
use Rattle.text.specs.declared.split.Within.TheVariants.{Nothing}
use Rattle.sip_uri.specs.declared.error.UriError.{UriError}
use Rattle.sip_uri.specs.declared.uri.NameAddr.{NameAddr}
use Rattle.sip_uri.specs.NameAddr.{name_addr_of}
use Rattle.sip_message.specs.declared.contact.ContactValue.{ContactValue}
use Rattle.sip_message.specs.declared.contact.ContactValue.TheVariants.{Star, Address, Unreadable}
use Rattle.header_fields.specs.declared.headers.Header.{Header}
use Rattle.sip_message.specs.declared.message.Message.{Message}
use Rattle.sip_message.specs.declared.message.Message.TheVariants as Kinds
use Rattle.sip_message.specs.Lookup.{values_named}
use Rattle.sip_message.specs.declared.contact.ContactNeed.{ContactNeed}
use Rattle.sip_message.specs.declared.contact.ContactNeed.TheVariants.{One, AtMostOne, Unlooked}
use Rattle.sip_message.specs.declared.start.Start.{Start}
use Rattle.sip_message.specs.declared.start.Start.TheVariants.{Asking, Answering}

abbrev pub is_star : List ℕ → Bool
is_star text = pointwise nat_eq (trimmed text) (codes "*")

abbrev pub address_or_not : Result NameAddr UriError → ContactValue
address_or_not (Ok name) = Address name
address_or_not (Err e) = Unreadable

unfoldable pub contact_of : List ℕ → ContactValue
contact_of text = if is_star text then Star else address_or_not (name_addr_of text)

-- the texts of all Contact header fields, of which one may have several values with commas between them
abbrev pub contact_texts : List Header → List (List ℕ)
contact_texts headers = flat_map (λ value. pieces 44 Nothing value) (values_named (codes "Contact") headers)

abbrev pub contacts_of : List Header → List ContactValue
contacts_of headers = map contact_of (contact_texts headers)

abbrev pub headers_in : Message → List Header
headers_in (Kinds.Request r) = r.headers
headers_in (Kinds.Response r) = r.headers

-- ---- how many Contacts a message needs

abbrev pub is_success : ℕ → Bool
is_success status = nat_le 200 status && nat_le status 299

-- a request, or a 2xx to one
abbrev pub may_need_contact : Start → Bool
may_need_contact (Asking line) = true
may_need_contact (Answering line) = is_success line.status

abbrev pub need_by_method : List ℕ → ContactNeed
need_by_method method =
    if pointwise nat_eq method (codes "INVITE") then One else if pointwise nat_eq method (codes "UPDATE") then AtMostOne else Unlooked

-- an INVITE, and a 2xx to one, says where its sender can be reached, and an UPDATE, and a 2xx to one, may say so: by
-- the method of its CSeq (sections 12.1.1, 12.1.2 and 13.3.1.4, RFC 3311 section 4)
abbrev pub contact_need : Start → List ℕ → ContactNeed
contact_need start method = if may_need_contact start then need_by_method method else Unlooked

abbrev pub is_one_address : List ContactValue → Bool
is_one_address [] = false
is_one_address (Star ∷ more) = false
is_one_address (Unreadable ∷ more) = false
is_one_address (Address name ∷ []) = true
is_one_address (Address name ∷ other ∷ more) = false

abbrev pub is_one_address_at_most : List ContactValue → Bool
is_one_address_at_most [] = true
is_one_address_at_most (value ∷ values) = is_one_address (value ∷ values)
