-- Addresses as they are: bytes, and ports of 16 bits. Their types say so, and a value in a law alone has to.
use Rattle.std.specs.Prelude.{◌≡◌, ℕ, ◌≤◌, IsTrue, List, length, slice_index}
use Rattle.configuration.specs.declared.config.Config.{Config}
use Rattle.configuration.specs.Rules.{KeepsRules, is_server_address}
use Rattle.sip_uri.specs.declared.uri.Addr.{Addr}
use Rattle.event_rows.specs.State.{server_of}

-- each number of an address is a byte
abbrev pub HasOctets : List ℕ → Type 0
HasOctets ip = (i : ℕ) → slice_index ip i ≤ 255

-- of the size of its type
pub record HasFourOctets (ip : List ℕ) : Type 0 where
  pub four : length ip ≡ 4
  pub octets : HasOctets ip

-- an address that a server may have
pub record IsServerAddress (ip : List ℕ) : Type 0 where
  pub sizes : HasFourOctets ip
  pub rules : IsTrue (is_server_address ip)

-- an address of bytes, and a port of 16 bits
pub record IsSource (source : Addr) : Type 0 where
  pub octets : HasOctets source.ip
  pub port : source.port ≤ 65535

-- where the server is reached: four bytes, and a port that is not 0
pub record IsReached (server : Addr) : Type 0 where
  pub source : IsSource server
  pub four : length server.ip ≡ 4
  pub port : 1 ≤ server.port

-- a configuration that keeps the rules, of such an address
pub record IsConfigured (c : Config) : Type 0 where
  pub rules : KeepsRules c
  pub source : IsSource (server_of c)
  pub four : length c.ip ≡ 4
