use Rattle.std.proofs.Common.{◌≡◌, take, filter}
use Rattle.offer_answer.specs.Alike.{is_kept}
use Rattle.offer_answer.proofs.sent_description.kept_lines.Given as goal

-- what is left of the lines so far
abbrev pub invariant-loop-line : goal.invariant-loop-line
invariant-loop-line l = l.left.items ≡ filter is_kept (take l.line-index l.line-items)
