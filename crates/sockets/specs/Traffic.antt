-- What contracts see of sockets.
use Rattle.std.specs.Prelude.{ℕ, ◌-◌, ◌*◌, ◌^◌, List, [], Bool, false, max, min}
use Rattle.sip_uri.specs.declared.uri.Addr.{Addr}
use Rattle.configuration.specs.declared.config.Config.{Config}
use Rattle.relay.specs.Limits.{max_viewers}
use Rattle.sockets.specs.Logs.{Datagram}

-- what was taken, what was asked to be sent and what of it went, the milliseconds that the system was given at each
-- wait, the bytes of room that the last receive was given, and whether the last call failed
pub record Traffic : Type 0 where
  pub taken : List Datagram
  pub asked : List Datagram
  pub sent : List Datagram
  pub waited : List ℕ
  pub room : ℕ
  pub failed : Bool

abbrev pub no_traffic : Traffic
no_traffic = record { taken = []; asked = []; sent = []; waited = []; room = 0; failed = false }

-- a datagram at the socket for SIP, whose one port is not noted
abbrev pub at_sip : Addr → List ℕ → Datagram
at_sip other bytes = record { own = 0; ip = other.ip; port = other.port; bytes = bytes }

-- the first relay port, how many sockets there are from it on, and how many workers share them
pub record RelayPorts : Type 0 where
  pub first : ℕ
  pub sockets : ℕ
  pub workers : ℕ

-- at least one, and at most as many as a board may have viewers
abbrev pub worker_count : Config → ℕ
worker_count config = min (max config.workers 1) max_viewers

-- two sockets for each pair, but at most 65,535
abbrev pub relay_ports : Config → RelayPorts
relay_ports config = record { first = config.relay_first; sockets = min (config.relay_pairs * 2) (2 ^ 16 - 1); workers = worker_count config }
