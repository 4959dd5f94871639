use Rattle.std.proofs.Common.{◌≡◌, ◌++◌, drop}
use Rattle.std.specs.List.{flat_map}
use Rattle.pages.specs.Pieces.{behind_comma, listed}
use Rattle.pages.specs.Json.{event_member}
use Rattle.pages.proofs.json.put_events.Given as goal

-- what was written and what is left are all
abbrev pub invariant-loop-event : goal.invariant-loop-event
invariant-loop-event l = l.out.items ++ flat_map (behind_comma event_member) (drop l.event-index l.rest) ≡ l.fn.out.items ++ listed event_member l.events
