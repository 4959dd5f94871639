use Rattle.std.proofs.Common.{◌≡◌, map, take}
use Rattle.call_traffic.specs.Calls.{traffic}
use Rattle.call_traffic.proofs.media_log.traffic_of.Given as goal

abbrev pub invariant-loop-call : goal.invariant-loop-call
invariant-loop-call l = l.shown.items ≡ map traffic (take l.call-index l.calls)
