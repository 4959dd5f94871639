use Rattle.std.proofs.Common.{◌≡◌, ◌≤◌, ◌*◌, drop, length, take, vec_capacity, vec_len}
use Rattle.call_traffic.specs.SilentWays.{TellsAll}
use Rattle.call_traffic.proofs.silent_way.silent_ways.Given as goal

abbrev pub invariant-loop-call : goal.invariant-loop-call
invariant-loop-call l = record {
  tells : TellsAll l.now (take l.call-index l.fn.calls) (take l.call-index l.calls) l.ways.items;
  rest : drop l.call-index l.calls ≡ drop l.call-index l.fn.calls;
  used : vec_len l.ways ≤ l.call-index * 2;
  room : length l.calls * 2 ≤ vec_capacity l.ways;
}
