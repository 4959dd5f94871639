use Rattle.std.proofs.Common.{◌≡◌, ◌++◌, map, drop}
use Rattle.sdp.specs.Writing.{line_text, ended}
use Rattle.sdp.proofs.write.put_lines.Given as goal

-- what is written and what is left to write are all
abbrev pub invariant-loop-line : goal.invariant-loop-line
invariant-loop-line l = l.out.items ++ ended (map line_text (drop l.line-index l.lines)) ≡ l.fn.out.items ++ ended (map line_text l.lines)
