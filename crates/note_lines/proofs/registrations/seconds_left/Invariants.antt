use Rattle.std.proofs.Common.{◌≡◌, drop, max}
use Rattle.note_lines.specs.NoteLines.{seconds_left}
use Rattle.note_lines.proofs.registrations.seconds_left.Given as goal

-- the most so far and the most of what is left are the most of all
abbrev pub invariant-loop-binding : goal.invariant-loop-binding
invariant-loop-binding l = max l.most (seconds_left (drop l.binding-index l.bindings) l.now) ≡ seconds_left l.bindings l.now
