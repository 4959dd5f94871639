use Rattle.std.proofs.Common.{◌≡◌, ◌++◌, map, take, drop}
use Rattle.note_lines.specs.Ledger.{hold_entry}
use Rattle.note_lines.proofs.ledger.hold.Given as goal

-- those so far are as they have to be, the others as they were
abbrev pub invariant-loop-entry : goal.invariant-loop-entry
invariant-loop-entry l = l.entries ≡ map (hold_entry l.number l.is_held) (take l.entry-index l.initial.entries) ++ drop l.entry-index l.initial.entries
