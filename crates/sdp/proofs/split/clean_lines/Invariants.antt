use Rattle.std.proofs.Common.{◌≡◌, ◌++◌, true, length}
use Rattle.std.specs.List.{list_all}
use Rattle.sdp.specs.Lines.{texts, is_clean, lines_of}
use Rattle.sdp.proofs.split.clean_lines.Given as goal

-- the lines so far and those of what is left are all
abbrev pub invariant-loop-line : goal.invariant-loop-line
invariant-loop-line l = (texts l.lines.items ++ lines_of l.rest ≡ lines_of l.text) × (list_all is_clean (texts l.lines.items) ≡ true)

abbrev pub decreases-loop-line : goal.decreases-loop-line
decreases-loop-line l = length l.rest
