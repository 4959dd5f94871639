-- Where the sender of a message is reached (RFC 3261 sections 8.1.1.8, 12.1 and 20.10). Host names are not looked up.
use Rattle.std.specs.Prelude.{◌&&◌, Bool, false, not, List, [], ◌∷◌, Option, None, is_some, if◌then◌else◌}
use Rattle.sip_uri.specs.declared.uri.Addr.{Addr}
use Rattle.sip_uri.specs.Address.{address_of}
use Rattle.sip_message.specs.declared.contact.ContactValue.{ContactValue}
use Rattle.sip_message.specs.declared.contact.ContactValue.TheVariants.{Star, Address, Unreadable}
use Rattle.sip_message.specs.declared.message.Parts.{Parts}
use Rattle.sip_message.specs.declared.message.Response.{Response}
use Rattle.sip_message.specs.Contact.{contacts_of, is_success}
use Rattle.call_rules.specs.Speaking.{is_invite, is_update}

abbrev pub address_in : ContactValue → Option Addr
address_in Star = None
address_in (Address name) = address_of name.uri
address_in Unreadable = None

-- the address of the first Contact
unfoldable pub contact_address : List ContactValue → Option Addr
contact_address [] = None
contact_address (value ∷ more) = address_in value

abbrev pub is_reached : List ContactValue → Bool
is_reached values = is_some (contact_address values)

-- there is a Contact, and it reaches nobody
abbrev pub is_lost : List ContactValue → Bool
is_lost [] = false
is_lost (value ∷ more) = not (is_reached (value ∷ more))

-- a 2xx to an INVITE has to say an address (section 13.2.2.4); one to an UPDATE may say none, and the target stays
-- (RFC 3311 section 5.1)
abbrev pub leaves_unreached : Parts → List ContactValue → Bool
leaves_unreached parts values =
    if is_invite parts then not (is_reached values) else if is_update parts then is_lost values else false

-- a response that can't be taken, since there is nowhere to send what follows it
unfoldable pub is_unreachable : Response → Bool
is_unreachable r = is_success r.status && leaves_unreached r.parts (contacts_of r.headers)
