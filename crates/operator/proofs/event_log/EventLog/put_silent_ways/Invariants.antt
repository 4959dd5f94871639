use Rattle.std.proofs.Common.{◌≡◌, ◌++◌, drop}
use Rattle.std.specs.List.{flat_map}
use Rattle.operator.specs.DueLines.{silent_text}
use Rattle.operator.proofs.event_log.EventLog.put_silent_ways.Given as goal

-- the lines so far, and those of the ends that are left, are all
abbrev pub invariant-loop-way : goal.invariant-loop-way
invariant-loop-way l =
    l.out.items ++ flat_map (silent_text l.self.ledger) (drop l.way-index l.ways) ≡ l.initial.out.items ++ flat_map (silent_text l.self.ledger) l.ways
