use Rattle.std.proofs.Common.{◌≡◌, take, map}
use Rattle.agent_status.specs.Users.{user_status}
use Rattle.agent_status.proofs.users.user_statuses.Given as goal

abbrev pub invariant-loop-entry : goal.invariant-loop-entry
invariant-loop-entry l = l.statuses.items ≡ map (user_status l.now) (take l.entry-index l.entries)
