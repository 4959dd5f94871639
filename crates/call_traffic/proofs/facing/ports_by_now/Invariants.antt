use Rattle.std.proofs.Common.{◌≡◌, ◌++◌, take}
use Rattle.std.specs.List.{AllZip}
use Rattle.call_traffic.specs.Readings.{port_readings}
use Rattle.call_traffic.specs.RelayPorts.{IsJustGot}
use Rattle.call_traffic.proofs.facing.ports_by_now.Given as goal

abbrev pub invariant-loop-number : goal.invariant-loop-number
invariant-loop-number g l = record {
  got : AllZip IsJustGot (take l.number-index l.number-items) l.ports.items;
  told : g.C.PortCounter.readings l.counter ≡ g.C.PortCounter.readings l.fn.counter ++ port_readings l.ports.items;
}
