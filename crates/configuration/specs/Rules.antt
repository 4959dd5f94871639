-- The rules of a configuration, and the first that is broken.
use Rattle.std.specs.Prelude.{◌≡◌, ◌≢◌, ◌==◌, ◌≤◌, ℕ, ◌+◌, ◌*◌, ◌%◌, Bool, true, not, ◌&&◌, nat_le, nat_lt, IsTrue, IfSome, List, [], ◌∷◌, length, slice_index, Option, Some, None, if◌then◌else◌}
use Rattle.std.specs.List.{list_all}
use Rattle.text.specs.Class.{passes_if_there}
use Rattle.registrar.specs.Registering.{are_distinct}
use Rattle.configuration.specs.Limits.{min_relay_port, max_relay_pairs, all_ports, max_silent_minutes, max_longest_call_hours, max_source_share}
use Rattle.registrar.specs.Limits.{max_users, max_min_expires}
use Rattle.configuration.specs.Names.{is_user, is_domain}
use Rattle.configuration.specs.declared.config.Config.{Config}
use Rattle.configuration.specs.declared.error.ConfigError.{ConfigError}
use Rattle.configuration.specs.declared.error.ConfigError.TheVariants.{RelayPorts, Address, Users, MinExpires, Domain, CallDuration, SourceShare}

-- ---- the relay's ports

-- the port after the last relay port: a pair has two
abbrev pub relay_end : Config → ℕ
relay_end c = c.relay_first + 2 * c.relay_pairs

abbrev pub is_relay_port : Config → ℕ → Bool
is_relay_port c port = nat_le c.relay_first port && nat_lt port (relay_end c)

-- no port is above 65535
abbrev pub has_room_for_ports : Config → Bool
has_room_for_ports c = nat_le (relay_end c) all_ports

-- an even first port, 1024 or above; 1 to 2,048 pairs; no port above 65535; the port for SIP is none of them
unfoldable pub has_relay_ports : Config → Bool
has_relay_ports c =
    c.relay_first % 2 == 0 && nat_le min_relay_port c.relay_first && nat_le 1 c.relay_pairs && nat_le c.relay_pairs max_relay_pairs
    && has_room_for_ports c && not (is_relay_port c c.sip_port)

-- ---- where the server is

-- not 0.0.0.0, and below 224.0.0.0, where multicast begins
abbrev pub is_server_address : List ℕ → Bool
is_server_address ip = not (list_all (λ octet. octet == 0) ip) && nat_lt (slice_index ip 0) 224

unfoldable pub has_address : Config → Bool
has_address c = is_server_address c.ip && not (c.sip_port == 0)

-- ---- who may register, and for how long

-- 1 to 1,000 users, each of them well formed, none twice
unfoldable pub is_user_list : List (List ℕ) → Bool
is_user_list users = nat_le 1 (length users) && nat_le (length users) max_users && list_all is_user users && are_distinct users

unfoldable pub has_users : Config → Bool
has_users c = is_user_list c.users

unfoldable pub has_lifetime : Config → Bool
has_lifetime c = nat_le 1 c.min_expires && nat_le c.min_expires max_min_expires

-- it is no less, if there is one
abbrev pub reaches : ℕ → Option ℕ → Bool
reaches least None = true
reaches least (Some most) = nat_le least most

unfoldable pub has_longest_lifetime : Config → Bool
has_longest_lifetime c = reaches c.min_expires c.max_expires

-- ---- the domain

-- a name, if one is configured
unfoldable pub has_domain : Config → Bool
has_domain c = passes_if_there is_domain c.domain

-- ---- how long a call lasts

-- it is from 1 to the most, if there is one
abbrev pub is_upto : ℕ → Option ℕ → Bool
is_upto most None = true
is_upto most (Some n) = nat_le 1 n && nat_le n most

unfoldable pub has_silence_limit : Config → Bool
has_silence_limit c = is_upto max_silent_minutes c.silent_minutes

unfoldable pub has_length_limit : Config → Bool
has_length_limit c = is_upto max_longest_call_hours c.longest_call_hours

-- ---- how many requests of one source address are in work

unfoldable pub has_share : Config → Bool
has_share c = is_upto max_source_share c.source_share

-- ---- all of them

-- the first rule that is broken, in this order
unfoldable pub first_broken : Config → Option ConfigError
first_broken c =
    if has_relay_ports c
    then (if has_address c
    then (if has_users c
    then (if has_lifetime c && has_longest_lifetime c
    then (if has_domain c
    then (if has_silence_limit c && has_length_limit c
    then (if has_share c then None else Some SourceShare)
    else Some CallDuration)
    else Some Domain)
    else Some MinExpires)
    else Some Users)
    else Some Address)
    else Some RelayPorts

-- What a configuration that keeps the rules has.
pub record KeepsRules (c : Config) : Type 0 where
  pub even : c.relay_first % 2 ≡ 0
  pub least : min_relay_port ≤ c.relay_first
  pub some_pairs : 1 ≤ c.relay_pairs
  pub max_pairs : c.relay_pairs ≤ max_relay_pairs
  pub last : c.relay_first + 2 * c.relay_pairs ≤ all_ports
  pub apart : IsTrue (not (is_relay_port c c.sip_port))
  pub address : IsTrue (is_server_address c.ip)
  pub real : c.ip ≢ 0 ∷ 0 ∷ 0 ∷ 0 ∷ []
  pub unicast : IsTrue (nat_lt (slice_index c.ip 0) 224)
  pub port : 1 ≤ c.sip_port
  pub some_users : 1 ≤ length c.users
  pub room : length c.users ≤ max_users
  pub formed : IsTrue (list_all is_user c.users)
  pub distinct : IsTrue (are_distinct c.users)
  pub least_lifetime : 1 ≤ c.min_expires
  pub bounded_lifetime : c.min_expires ≤ max_min_expires
  pub longest_lifetime : IfSome c.max_expires (λ most. c.min_expires ≤ most)
  pub domain : IsTrue (passes_if_there is_domain c.domain)
  pub silent_minutes : IfSome c.silent_minutes (λ n. (1 ≤ n) × (n ≤ max_silent_minutes))
  pub longest_call_hours : IfSome c.longest_call_hours (λ n. (1 ≤ n) × (n ≤ max_longest_call_hours))
  pub source_share : IfSome c.source_share (λ n. (1 ≤ n) × (n ≤ max_source_share))
