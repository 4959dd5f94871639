use Rattle.std.proofs.Common.{◌≡◌, ◌++◌, drop, take}
use Rattle.std.specs.List.{AllZip}
use Rattle.call_traffic.specs.Readings.{IsPortRead, port_readings}
use Rattle.call_traffic.proofs.end_traffic.EndTraffic.read.Given as goal

abbrev pub invariant-loop-port : goal.invariant-loop-port
invariant-loop-port g l = record {
  read : AllZip IsPortRead (take l.port-index l.fn.self.ports.items) (take l.port-index l.port-items);
  rest : drop l.port-index l.port-items ≡ drop l.port-index l.fn.self.ports.items;
  told : g.C.PortCounter.readings l.counter ≡ g.C.PortCounter.readings l.fn.counter ++ port_readings (take l.port-index l.port-items);
}
