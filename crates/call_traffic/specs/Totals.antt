-- What came in all calls since the server's start. A count wraps at 2^64.
use Rattle.std.specs.Prelude.{ℕ, ◌+◌, ◌%◌, ◌^◌, List, sum_by}
use Rattle.status.specs.declared.status.DatagramCounts.{DatagramCounts}
use Rattle.call_traffic.specs.declared.call_traffic.CallTraffic.{CallTraffic}
use Rattle.call_traffic.specs.EndTraffic.{total}

-- the RTP datagrams of calls that are over, and of those that are live
abbrev pub datagrams : DatagramCounts → List CallTraffic → DatagramCounts
datagrams past calls = record {
  from_callers = (past.from_callers + sum_by (λ call. total call.from_caller) calls) % 2 ^ 64;
  from_callees = (past.from_callees + sum_by (λ call. total call.from_callee) calls) % 2 ^ 64;
}
