-- The description that the server sends in place of the one that it took: with its own origin, address and ports.
use Rattle.std.specs.Prelude.{◌≡◌, ◌≤◌, ◌<◌, ◌^◌, ℕ, Bool, true, not, ◌&&◌, ◌||◌, ◌==◌, List, [], ◌∷◌, codes, decimal, length, option_map, slice_index, if◌then◌else◌}
use Rattle.sip_uri.specs.Writing.{ip4_text}
use Rattle.sdp.specs.declared.address.Address.{Address}
use Rattle.sdp.specs.declared.address.Address.TheVariants.{Ip4}
use Rattle.sdp.specs.declared.description.Origin.{Origin}
use Rattle.sdp.specs.declared.description.Media.{Media}
use Rattle.sdp.specs.declared.description.Description.{Description}
use Rattle.offer_answer.specs.declared.sent_description.ServerOrigin.{ServerOrigin}
use Rattle.offer_answer.specs.Direct.{hold_address, is_hold}
use Rattle.offer_answer.specs.Alike.{kept_lines}

-- `o=- ID VERSION IN IP4 ADDRESS` (RFC 4566 section 5.2)
unfoldable pub origin_of : ServerOrigin → Origin
origin_of o = record { username = codes "-"; id = decimal o.id; version = decimal o.version; network_type = codes "IN"; address_type = codes "IP4"; address = ip4_text o.ip }

-- the server's address, except for 0.0.0.0
abbrev pub readdressed_address : List ℕ → Address → Address
readdressed_address ip a = if is_hold a then Ip4 hold_address else Ip4 ip

-- the port sent in place of a medium's: 0 stays 0 (RFC 3264 sections 6 and 8.2)
abbrev pub told_port : ℕ → Media → ℕ
told_port port m = if m.port == 0 then 0 else port

unfoldable pub readdressed_medium : List ℕ → ℕ → Media → Media
readdressed_medium ip port m = record {
  kind = m.kind;
  port = told_port port m;
  count = m.count;
  proto = m.proto;
  formats = m.formats;
  info = m.info;
  connection = option_map (readdressed_address ip) m.connection;
  after = kept_lines m.after;
}

abbrev pub readdressed_media : List ℕ → List ℕ → List Media → List Media
readdressed_media ip (port ∷ ports) (m ∷ ms) = readdressed_medium ip port m ∷ readdressed_media ip ports ms
readdressed_media ip _ _ = []

-- what is sent for each medium
abbrev pub told_ports : List ℕ → List Media → List ℕ
told_ports (port ∷ ports) (m ∷ ms) = told_port port m ∷ told_ports ports ms
told_ports _ _ = []

unfoldable pub readdressed_description : ServerOrigin → List ℕ → Description → Description
readdressed_description origin ports d = record {
  origin = origin_of origin;
  before = d.before;
  connection = option_map (readdressed_address origin.ip) d.connection;
  after = kept_lines d.after;
  media = readdressed_media origin.ip ports d.media;
}

-- no port is 0 for a medium whose port is not 0
abbrev pub has_ports : List ℕ → List Media → Bool
has_ports (port ∷ ports) (m ∷ ms) = (m.port == 0 || not (port == 0)) && has_ports ports ms
has_ports _ _ = true

-- the numbers of an origin and the ports are of the sizes of their types: 64 bits, four octets, 16 bits
pub record AreOfTheirSizes (origin : ServerOrigin) (ports : List ℕ) : Type 0 where
  pub id : origin.id < 2 ^ 64
  pub version : origin.version < 2 ^ 64
  pub four : length origin.ip ≡ 4
  pub octets : (i : ℕ) → slice_index origin.ip i ≤ 255
  pub each_port : (i : ℕ) → slice_index ports i ≤ 65535
