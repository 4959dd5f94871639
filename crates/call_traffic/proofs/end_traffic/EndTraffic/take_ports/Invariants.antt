use Rattle.std.proofs.Common.{◌≡◌, true, filter, take, All}
use Rattle.call_traffic.specs.EndTraffic.{is_among, total, with_ports}
use Rattle.call_traffic.proofs.end_traffic.EndTraffic.take_ports.Given as goal

abbrev pub invariant-loop-port : goal.invariant-loop-port
invariant-loop-port l = record {
  faces : All (λ p. is_among l.self.ports.items p ≡ true) (take l.port-index l.ports);
  taken : l.self.ports.items ≡ with_ports (filter (is_among l.ports) l.fn.self.ports.items) (take l.port-index l.ports);
  only : All (λ p. is_among l.ports p ≡ true) l.self.ports.items;
  total : total l.self ≡ total l.fn.self;
  recent : l.self.recent ≡ l.fn.self.recent;
  way : l.self.way ≡ l.fn.self.way;
}
