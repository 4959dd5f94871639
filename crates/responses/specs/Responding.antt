-- The responses of the server's own (RFC 3261 sections 8.2, 10.3 and 11.2).
use Rattle.std.specs.Prelude.{ℕ, ◌-◌, List, [], ◌∷◌, ◌++◌, map, codes, decimal, Result, Ok, Err}
use Rattle.std.specs.Int.{div_ceil}
use Rattle.sip_uri.specs.declared.uri.Addr.{Addr}
use Rattle.sip_uri.specs.Writing.{uri_text}
use Rattle.sip_message.specs.declared.headers.Header.{Header}
use Rattle.sip_message.specs.declared.message.Parts.{Parts}
use Rattle.sip_message.specs.declared.message.Response.{Response}
use Rattle.sip_message.specs.Lookup.{named}
use Rattle.sip_writing.specs.Reply.{reply_of}
use Rattle.registrar.specs.declared.binding.Binding.{Binding}
use Rattle.registrar.specs.declared.refusal.Refusal.{Refusal}
use Rattle.registrar.specs.declared.refusal.Refusal.TheVariants.{OutOfMemory, UnknownUser, StarMisused, TooBrief, OutOfOrder, TooManyBindings, BadContact}

-- ---- header fields that one response needs and another doesn't

-- the methods that are offered (section 20.5)
abbrev pub allow : Header
allow = named (codes "Allow") (codes "INVITE, ACK, CANCEL, BYE, REGISTER, OPTIONS, UPDATE")

-- a binding, with the rest of its life in whole seconds, rounded up (section 10.3, step 8)
abbrev pub contact_text : ℕ → Binding → List ℕ
contact_text now b = codes "<" ++ uri_text b.uri ++ codes ">;expires=" ++ decimal (div_ceil (b.expires_at - now) 1000)

abbrev pub contact_header : ℕ → Binding → Header
contact_header now b = named (codes "Contact") (contact_text now b)

-- how long a binding has to last at least (section 20.23)
abbrev pub min_expires_header : ℕ → Header
min_expires_header seconds = named (codes "Min-Expires") (decimal seconds)

-- ---- a REGISTER that is refused

-- the status of each refusal (section 10.3)
abbrev pub status_of : Refusal → ℕ
status_of OutOfMemory = 500
status_of UnknownUser = 404
status_of StarMisused = 400
status_of TooBrief = 423
status_of OutOfOrder = 500
status_of TooManyBindings = 500
status_of BadContact = 400

abbrev pub refusal_headers : ℕ → Refusal → List Header
refusal_headers least TooBrief = min_expires_header least ∷ []
refusal_headers least refusal = []

-- ---- the whole

-- the tag of To in a response that no transaction sends
abbrev pub stateless : List ℕ
stateless = codes "stateless"

abbrev pub with_headers : List Header → Response → Response
with_headers further response = record response { headers = response.headers ++ further }

-- a response without a body: what it repeats from the request, and further header fields
unfoldable pub responds : Parts → Addr → ℕ → List ℕ → List Header → Response
responds parts source status tag further = with_headers further (reply_of parts source status tag)
