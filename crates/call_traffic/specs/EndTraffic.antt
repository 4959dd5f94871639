-- What came from an end of a call, as of the last reading of its ports' counts.
use Rattle.std.specs.Prelude.{◌≡◌, ℕ, ◌+◌, ◌-◌, ◌%◌, ◌^◌, ◌==◌, Bool, List, [], ◌∷◌, ◌++◌, filter, slice_index, if◌then◌else◌}
use Rattle.std.specs.List.{list_any}
use Rattle.call_traffic.specs.declared.end_traffic.EndTraffic.{EndTraffic}
use Rattle.call_traffic.specs.declared.relay_port.RelayPort.{RelayPort}
use Rattle.call_traffic.specs.RelayPorts.{rtp_at, rtcp_at}

-- the RTP datagrams since the call got its ports
abbrev pub total : EndTraffic → ℕ
total end = (end.past + rtp_at end.ports.items) % 2 ^ 64

-- those with all RTCP at the current ports: a different number means that more came
abbrev pub total_with_rtcp : EndTraffic → ℕ
total_with_rtcp end = (total end + rtcp_at end.ports.items) % 2 ^ 64

-- the RTP datagrams since the tenth look before
abbrev pub recent : EndTraffic → ℕ
recent end = (2 ^ 64 + total end - slice_index end.recent.counts 0) % 2 ^ 64

-- one of these ports has the same number
abbrev pub is_among : List RelayPort → RelayPort → Bool
is_among ports port = list_any (λ other. other.number == port.number) ports

-- the port as a call gets it: what had come there so far doesn't count
abbrev pub begun : RelayPort → RelayPort
begun port = record port { before = port.rtp }

abbrev pub with_port : List RelayPort → RelayPort → List RelayPort
with_port ports port = if is_among ports port then ports else ports ++ begun port ∷ []

-- each of these ports in turn
abbrev pub with_ports : List RelayPort → List RelayPort → List RelayPort
with_ports ports [] = ports
with_ports ports (port ∷ others) = with_ports (with_port ports port) others

-- the ports that an end has once it has got these, and left all others
abbrev pub after_taking : List RelayPort → List RelayPort → List RelayPort
after_taking these ports = with_ports (filter (is_among these) ports) these

-- the ports may be others, and what came at those that were left still counts
pub record HasOtherPorts (before after : EndTraffic) : Type 0 where
  pub kept : total after ≡ total before
  pub recent : after.recent ≡ before.recent
  pub way : after.way ≡ before.way
