use Rattle.std.proofs.Common.{◌≡◌, ◌++◌, length}
use Rattle.header_fields.specs.Lines.{ended_lines, texts}
use Rattle.header_fields.proofs.lines.ended_lines.Given as goal

-- the lines so far and those of what is left are all
abbrev pub invariant-loop-line : goal.invariant-loop-line
invariant-loop-line l = texts l.lines.items ++ ended_lines l.rest ≡ ended_lines l.text

abbrev pub decreases-loop-line : goal.decreases-loop-line
decreases-loop-line l = length l.rest
