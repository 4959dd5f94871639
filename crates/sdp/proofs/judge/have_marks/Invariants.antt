use Rattle.std.proofs.Common.{◌≡◌, drop}
use Rattle.std.specs.List.{list_all}
use Rattle.sdp.specs.Lines.{texts}
use Rattle.sdp.specs.Lines.{has_mark}
use Rattle.sdp.proofs.judge.have_marks.Given as goal

abbrev pub invariant-loop-line : goal.invariant-loop-line
invariant-loop-line l = list_all has_mark (texts (drop l.line-index l.lines)) ≡ list_all has_mark (texts l.lines)
