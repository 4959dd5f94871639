use Rattle.std.proofs.Common.{◌≡◌, ◌+◌, ◌≤◌, drop, length}
use Rattle.calls.specs.Timing.{timed}
use Rattle.calls.proofs.call_timers.take_actions.Given as goal

-- the actions that are left lead to the same, and there is room for them
abbrev pub invariant-loop-action : goal.invariant-loop-action
invariant-loop-action l = record {
  same : timed l.now l.number l.timers.timers (drop l.action-index l.actions) ≡ timed l.now l.number l.fn.timers.timers l.actions;
  room : length l.actions ≤ l.action-index + l.timers.room;
  left : l.fn.timers.room ≤ l.action-index + l.timers.room;
}
