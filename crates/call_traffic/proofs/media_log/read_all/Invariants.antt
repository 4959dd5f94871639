use Rattle.std.proofs.Common.{◌≡◌, ◌++◌, drop, take}
use Rattle.std.specs.List.{AllZip}
use Rattle.call_traffic.specs.Readings.{IsCallRead, all_readings}
use Rattle.call_traffic.proofs.media_log.read_all.Given as goal

abbrev pub invariant-loop-call : goal.invariant-loop-call
invariant-loop-call g l = record {
  read : AllZip IsCallRead (take l.call-index l.fn.calls) (take l.call-index l.calls);
  rest : drop l.call-index l.calls ≡ drop l.call-index l.fn.calls;
  told : g.C.PortCounter.readings l.counter ≡ g.C.PortCounter.readings l.fn.counter ++ all_readings (take l.call-index l.calls);
}
