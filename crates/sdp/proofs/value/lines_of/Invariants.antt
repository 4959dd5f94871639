use Rattle.std.proofs.Common.{◌≡◌, ◌++◌, map, drop}
use Rattle.sdp.specs.Lines.{texts, line_of}
use Rattle.sdp.proofs.value.lines_of.Given as goal

-- the lines so far, and those of what is left
abbrev pub invariant-loop-line : goal.invariant-loop-line
invariant-loop-line l = l.made.items ++ map line_of (texts (drop l.line-index l.lines)) ≡ map line_of (texts l.lines)
