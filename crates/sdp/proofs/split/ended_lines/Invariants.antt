use Rattle.std.proofs.Common.{◌≡◌, ◌++◌, length}
use Rattle.sdp.specs.Lines.{texts, lines_of}
use Rattle.sdp.proofs.split.ended_lines.Given as goal

-- the lines so far and those of what is left are all
abbrev pub invariant-loop-line : goal.invariant-loop-line
invariant-loop-line l = texts l.lines.items ++ lines_of l.rest ≡ lines_of l.text

abbrev pub decreases-loop-line : goal.decreases-loop-line
decreases-loop-line l = length l.rest
