use Rattle.std.proofs.Common.{◌≡◌, ◌++◌, drop}
use Rattle.std.specs.List.{flat_map}
use Rattle.pages.specs.MetricCalls.{user_sample}
use Rattle.pages.proofs.metric_calls.put_users.Given as goal

-- what was written and what is left are all
abbrev pub invariant-loop-user : goal.invariant-loop-user
invariant-loop-user l = l.out.items ++ flat_map user_sample (drop l.user-index l.users) ≡ l.fn.out.items ++ flat_map user_sample l.users
