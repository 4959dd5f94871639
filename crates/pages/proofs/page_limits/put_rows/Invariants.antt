use Rattle.std.proofs.Common.{◌≡◌, ◌++◌, drop}
use Rattle.std.specs.List.{flat_map}
use Rattle.pages.specs.Limits.{event_row}
use Rattle.pages.proofs.page_limits.put_rows.Given as goal

-- what was written and what is left are all
abbrev pub invariant-loop-event : goal.invariant-loop-event
invariant-loop-event l = l.out.items ++ flat_map event_row (drop l.event-index l.events) ≡ l.fn.out.items ++ flat_map event_row l.events
