use Rattle.std.proofs.Common.{◌≡◌, ◌++◌, drop}
use Rattle.sdp.proofs.line.Lines.keep.Given as goal

-- what is kept and what is left to keep are all
abbrev pub invariant-loop-line : goal.invariant-loop-line
invariant-loop-line l = l.kept.items ++ drop l.line-index l.lines ≡ l.self
