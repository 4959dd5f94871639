use Rattle.std.proofs.Common.{◌≡◌, ◌≤◌, drop}
use Rattle.transactions.specs.Timing.{without_kinds}
use Rattle.transactions.proofs.timer_changes.stop_kinds.Given as goal

-- who stops what is left has stopped all
abbrev pub invariant-loop-kind : goal.invariant-loop-kind
invariant-loop-kind l =
    (without_kinds l.timers.timers l.id (drop l.kind-index l.kinds) ≡ without_kinds l.fn.timers.timers l.id l.kinds)
    × (l.fn.timers.room ≤ l.timers.room)
