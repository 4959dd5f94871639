use Rattle.std.proofs.Common.{◌≡◌, take}
use Rattle.agent_status.specs.Users.{bindings_at}
use Rattle.agent_status.proofs.users.bindings_at.Given as goal

abbrev pub invariant-loop-binding : goal.invariant-loop-binding
invariant-loop-binding l = l.statuses.items ≡ bindings_at l.now (take l.binding-index l.bindings)
