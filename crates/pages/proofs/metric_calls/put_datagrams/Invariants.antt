use Rattle.std.proofs.Common.{◌≡◌, ◌++◌, drop}
use Rattle.std.specs.List.{flat_map}
use Rattle.pages.specs.MetricCalls.{datagram_samples}
use Rattle.pages.proofs.metric_calls.put_datagrams.Given as goal

-- what was written and what is left are all
abbrev pub invariant-loop-call : goal.invariant-loop-call
invariant-loop-call l = l.out.items ++ flat_map datagram_samples (drop l.call-index l.calls) ≡ l.fn.out.items ++ flat_map datagram_samples l.calls
