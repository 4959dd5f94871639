use Rattle.std.proofs.Common.{◌≡◌, drop}
use Rattle.sdp.specs.WayOf.{first_way}
use Rattle.sdp.proofs.way.first_way.Given as goal

-- the first of what is left is the first of all
abbrev pub invariant-loop-line : goal.invariant-loop-line
invariant-loop-line l = first_way (drop l.line-index l.lines) ≡ first_way l.lines
