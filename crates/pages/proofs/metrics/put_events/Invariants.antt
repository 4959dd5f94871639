use Rattle.std.proofs.Common.{◌≡◌, ◌++◌, drop}
use Rattle.std.specs.List.{flat_map}
use Rattle.pages.specs.Metrics.{event_sample}
use Rattle.pages.proofs.metrics.put_events.Given as goal

-- what was written and what is left are all
abbrev pub invariant-loop-event : goal.invariant-loop-event
invariant-loop-event l = l.out.items ++ flat_map event_sample (drop l.event-index l.events) ≡ l.fn.out.items ++ flat_map event_sample l.events
