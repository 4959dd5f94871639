-- What was counted at ports of the relay that face an end. A count wraps at 2^64.
use Rattle.std.specs.Prelude.{◌≡◌, ℕ, ◌+◌, ◌-◌, ◌%◌, ◌^◌, List, sum_by}
use Rattle.call_traffic.specs.declared.relay_port.RelayPort.{RelayPort}

-- RTCP comes at the odd port above the even one of RTP (RFC 3550 section 11)
abbrev pub rtcp_port : ℕ → ℕ
rtcp_port number = (number + 1) % 2 ^ 16

-- the port as a call gets it: none came so far
abbrev pub IsJustGot : ℕ → RelayPort → Type 0
IsJustGot number port = port ≡ record { number = number; before = port.rtp; rtp = port.rtp; rtcp = port.rtcp }

-- the RTP datagrams since the call got the port
abbrev pub came : RelayPort → ℕ
came port = (2 ^ 64 + port.rtp - port.before) % 2 ^ 64

-- those at all of these ports
abbrev pub rtp_at : List RelayPort → ℕ
rtp_at ports = sum_by came ports % 2 ^ 64

-- the RTCP datagrams above these ports since the server's start
abbrev pub rtcp_at : List RelayPort → ℕ
rtcp_at ports = sum_by (λ port. port.rtcp) ports % 2 ^ 64
