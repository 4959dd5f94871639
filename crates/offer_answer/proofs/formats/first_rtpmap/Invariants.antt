use Rattle.std.proofs.Common.{◌≡◌, drop}
use Rattle.offer_answer.specs.Formats.{first_rtpmap}
use Rattle.offer_answer.proofs.formats.first_rtpmap.Given as goal

-- the first of what is left is the first of all
abbrev pub invariant-loop-line : goal.invariant-loop-line
invariant-loop-line l = first_rtpmap l.format (drop l.line-index l.lines) ≡ first_rtpmap l.format l.lines
