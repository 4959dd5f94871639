-- The text that is written for a URI.
use Rattle.std.specs.Prelude.{◌≡◌, ℕ, List, [], ◌∷◌, ◌++◌, codes, Option, Some, None, if◌then◌else◌, decimal, slice_index}
use Rattle.std.specs.List.{flat_map}
use Rattle.percent_encoding.specs.Percent.{percent_encode_byte}
use Rattle.sip_uri.specs.declared.uri.Uri.{Uri}
use Rattle.sip_uri.specs.declared.uri.Param.{Param}
use Rattle.sip_uri.specs.declared.uri.Host.{Host}
use Rattle.sip_uri.specs.declared.uri.Host.TheVariants.{Ip4, Name}
use Rattle.text.specs.Cut.{led_by}
use Rattle.sip_uri.specs.Classes.{is_plain_user}

-- what was there before is kept, and a part may be written after it
abbrev pub BeginsWith : List ℕ → List ℕ → Type 0
BeginsWith old new = (more : List ℕ) × (new ≡ old ++ more)

-- a byte of a user, or its escape
abbrev pub escaped_byte : ℕ → List ℕ
escaped_byte b = if is_plain_user b then b ∷ [] else percent_encode_byte b

unfoldable pub escaped : List ℕ → List ℕ
escaped bytes = flat_map escaped_byte bytes

-- four numbers with dots between them
abbrev pub ip4_text : List ℕ → List ℕ
ip4_text octets = decimal (slice_index octets 0) ++ 46 ∷ [] ++ decimal (slice_index octets 1) ++ 46 ∷ [] ++ decimal (slice_index octets 2) ++ 46 ∷ [] ++ decimal (slice_index octets 3)

abbrev pub host_text : Host → List ℕ
host_text (Ip4 octets) = ip4_text octets
host_text (Name name) = name

abbrev pub param_text : Param → List ℕ
param_text p = p.name ++ led_by 61 p.value

-- parameters, the first after one byte and each other after another
abbrev pub params_text : ℕ → ℕ → List Param → List ℕ
params_text first next [] = []
params_text first next (p ∷ ps) = first ∷ param_text p ++ params_text next next ps

unfoldable pub user_part : Option (List ℕ) → List ℕ
user_part None = []
user_part (Some user) = escaped user ++ 64 ∷ []

abbrev pub port_part : Option ℕ → List ℕ
port_part None = []
port_part (Some port) = 58 ∷ decimal port

unfoldable pub uri_text : Uri → List ℕ
uri_text u = codes "sip:" ++ (user_part u.user ++ (host_text u.host ++ (port_part u.port ++ (params_text 59 59 u.params ++ params_text 63 38 u.headers))))
