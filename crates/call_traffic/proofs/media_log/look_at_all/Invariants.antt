use Rattle.std.proofs.Common.{◌≡◌, drop, take}
use Rattle.std.specs.List.{AllZip}
use Rattle.call_traffic.specs.Calls.{IsSeen}
use Rattle.call_traffic.proofs.media_log.look_at_all.Given as goal

abbrev pub invariant-loop-call : goal.invariant-loop-call
invariant-loop-call l = record {
  seen : AllZip (IsSeen l.now) (take l.call-index l.fn.calls) (take l.call-index l.calls);
  rest : drop l.call-index l.calls ≡ drop l.call-index l.fn.calls;
}
