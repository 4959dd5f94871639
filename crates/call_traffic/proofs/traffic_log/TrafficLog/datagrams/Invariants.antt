use Rattle.std.proofs.Common.{◌≡◌, take}
use Rattle.call_traffic.specs.Totals.{datagrams}
use Rattle.call_traffic.proofs.traffic_log.TrafficLog.datagrams.Given as goal

abbrev pub invariant-loop-call : goal.invariant-loop-call
invariant-loop-call l = l.standing ≡ datagrams (record { from_callers = 0; from_callees = 0 }) (take l.call-index l.self.calls.items)
