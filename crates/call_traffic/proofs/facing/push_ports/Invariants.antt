use Rattle.std.proofs.Common.{◌≡◌, ◌++◌, take}
use Rattle.call_traffic.specs.Facing.{ports_facing}
use Rattle.call_traffic.proofs.facing.push_ports.Given as goal

abbrev pub invariant-loop-seat : goal.invariant-loop-seat
invariant-loop-seat l = l.ports.items ≡ l.fn.ports.items ++ ports_facing l.end l.offerer (take l.seat-index l.seats)
