use Rattle.std.proofs.Common.{◌≡◌, ◌%◌, ◌^◌, take}
use Rattle.std.specs.List.{sum_by}
use Rattle.call_traffic.specs.RelayPorts.{came}
use Rattle.call_traffic.proofs.relay_port.rtcp_at.Given as goal

abbrev pub invariant-loop-port : goal.invariant-loop-port
invariant-loop-port l = l.total ≡ sum_by (λ port. port.rtcp) (take l.port-index l.ports) % 2 ^ 64
