use Rattle.std.proofs.Common.{◌≡◌, take, map}
use Rattle.agent_status.specs.Calls.{call_status}
use Rattle.agent_status.proofs.standing_calls.call_statuses.Given as goal

abbrev pub invariant-loop-standing : goal.invariant-loop-standing
invariant-loop-standing l = l.statuses.items ≡ map (λ c. call_status l.traffic c.call) (take l.standing-index l.calls)
