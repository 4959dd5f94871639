use Rattle.std.proofs.Common.{◌≡◌, drop}
use Rattle.std.specs.List.{list_all}
use Rattle.sdp.specs.Lines.{texts}
use Rattle.sdp.specs.Lines.{is_clean}
use Rattle.sdp.proofs.split.are_clean.Given as goal

abbrev pub invariant-loop-line : goal.invariant-loop-line
invariant-loop-line l = list_all is_clean (texts (drop l.line-index l.lines)) ≡ list_all is_clean (texts l.lines)
