-- What a REGISTER request asks of the registrar (RFC 3261 sections 10.2 and 10.3).
use Rattle.std.specs.Prelude.{ℕ, Bool, true, false, nat_lt, List, [], ◌∷◌, ◌++◌, count_by, codes, Option, Some, None, option_map, unwrap_or, if◌then◌else◌}
use Rattle.std.specs.List.{list_any, filter_map}
use Rattle.std.specs.Char.{is_ascii_digit}
use Rattle.text.specs.Class.{is_run_of}
use Rattle.text.specs.Number.{number_upto}
use Rattle.sip_uri.specs.declared.uri.Param.{Param}
use Rattle.sip_uri.specs.Binding.{param_named}
use Rattle.sip_message.specs.declared.contact.ContactValue.{ContactValue}
use Rattle.sip_message.specs.declared.contact.ContactValue.TheVariants.{Star, Address, Unreadable}
use Rattle.sip_message.specs.declared.message.Request.{Request}
use Rattle.sip_message.specs.Contact.{contacts_of}
use Rattle.sip_message.specs.Lookup.{value_named}
use Rattle.registrar.specs.declared.register.Contact.{Contact}
use Rattle.registrar.specs.declared.register.Register.{Register}
use Rattle.registrar.specs.Registering.{Rules, user_of}

-- the seconds of a text that is not a number below 2^32
abbrev pub unreadable_seconds : ℕ
unreadable_seconds = 3600

abbrev pub seconds_of : List ℕ → ℕ
seconds_of text = if is_run_of is_ascii_digit text then unwrap_or (number_upto 4294967295 text) unreadable_seconds else unreadable_seconds

abbrev pub seconds_by : Option (List ℕ) → ℕ
seconds_by None = unreadable_seconds
seconds_by (Some text) = seconds_of text

-- the seconds of a contact's own `expires`, of which the first counts (section 10.2.1.1)
abbrev pub expires_of : List Param → Option ℕ
expires_of params = option_map (λ p. seconds_by p.value) (param_named (codes "expires") params)

abbrev pub is_star : ContactValue → Bool
is_star Star = true
is_star (Address name) = false
is_star Unreadable = false

abbrev pub contact_from : ContactValue → Option Contact
contact_from Star = None
contact_from (Address name) = Some (record { uri = Some name.uri; expires = expires_of name.params })
contact_from Unreadable = Some (record { uri = None; expires = None })

-- those that are no star
abbrev pub contacts_without_star : List ContactValue → List Contact
contacts_without_star values = filter_map contact_from values

-- a further star counts as a contact that can't be read, and so occurs with the first one, which is to be alone
abbrev pub further_star : List ContactValue → List Contact
further_star values = if nat_lt 1 (count_by is_star values) then record { uri = None; expires = None } ∷ [] else []

abbrev pub contacts_from : List ContactValue → List Contact
contacts_from values = contacts_without_star values ++ further_star values

-- what a REGISTER asks; of several Expires header fields the first counts
unfoldable pub register_of : Rules → Request → Register
register_of rules request = record {
  user = user_of rules request.parts.to.uri;
  star = list_any is_star (contacts_of request.headers);
  contacts = contacts_from (contacts_of request.headers);
  expires = option_map seconds_of (value_named (codes "Expires") request.headers);
  call_id = request.parts.call_id;
  cseq = request.parts.cseq.number;
}
