-- Where a request to a URI goes (RFC 3261 sections 18.1.1, 19.1.2 and RFC 3263 section 4.2).
use Rattle.std.specs.Prelude.{ℕ, Option, Some, None, unwrap_or}
use Rattle.sip_uri.specs.declared.uri.Addr.{Addr}
use Rattle.sip_uri.specs.declared.uri.Host.{Host}
use Rattle.sip_uri.specs.declared.uri.Host.TheVariants.{Ip4, Name}
use Rattle.sip_uri.specs.declared.uri.Uri.{Uri}

-- the port if none is written
abbrev pub default_port : ℕ
default_port = 5060

abbrev pub address_at : Host → Option ℕ → Option Addr
address_at (Ip4 octets) port = Some (record { ip = octets; port = unwrap_or port default_port })
address_at (Name name) port = None

-- an IPv4 host's address and the URI's port; none of a host name, which nothing here looks up
abbrev pub address_of : Uri → Option Addr
address_of uri = address_at uri.host uri.port
