-- The readings of the ports' counts, in the order in which a counter gave them.
use Rattle.std.specs.Prelude.{◌≡◌, List, [], ◌∷◌, ◌++◌}
use Rattle.std.specs.List.{AllZip, flat_map}
use Rattle.call_traffic.specs.declared.call_traffic.CallTraffic.{CallTraffic}
use Rattle.call_traffic.specs.declared.end_traffic.EndTraffic.{EndTraffic}
use Rattle.call_traffic.specs.declared.relay_port.RelayPort.{RelayPort}
use Rattle.call_traffic.specs.Reading.{Reading}
use Rattle.call_traffic.specs.RelayPorts.{rtcp_port}

-- ---- which readings ports have

-- of its RTP, and of the RTCP at the port above
abbrev pub readings_of : RelayPort → List Reading
readings_of port = record { port = port.number; count = port.rtp } ∷ record { port = rtcp_port port.number; count = port.rtcp } ∷ []

abbrev pub port_readings : List RelayPort → List Reading
port_readings ports = flat_map readings_of ports

-- the caller's ports first
abbrev pub call_readings : CallTraffic → List Reading
call_readings call = port_readings call.from_caller.ports.items ++ port_readings call.from_callee.ports.items

abbrev pub all_readings : List CallTraffic → List Reading
all_readings calls = flat_map call_readings calls

-- ---- a further reading changes counts, and nothing else

abbrev pub IsPortRead : RelayPort → RelayPort → Type 0
IsPortRead before after = after ≡ record before { rtp = after.rtp; rtcp = after.rtcp }

pub record IsEndRead (before after : EndTraffic) : Type 0 where
  pub ports : AllZip IsPortRead before.ports.items after.ports.items
  pub others : after ≡ record before { ports = after.ports }

pub record IsCallRead (before after : CallTraffic) : Type 0 where
  pub from_caller : IsEndRead before.from_caller after.from_caller
  pub from_callee : IsEndRead before.from_callee after.from_callee
  pub others : after ≡ record before { from_caller = after.from_caller; from_callee = after.from_callee }
