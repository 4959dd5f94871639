use Rattle.std.proofs.Common.{◌≡◌, ◌++◌, drop}
use Rattle.std.specs.List.{flat_map}
use Rattle.pages.specs.Limits.{log_line}
use Rattle.pages.proofs.page_limits.put_lines.Given as goal

-- what was written and what is left are all
abbrev pub invariant-loop-line : goal.invariant-loop-line
invariant-loop-line l = l.out.items ++ flat_map log_line (drop l.line-index l.log) ≡ l.fn.out.items ++ flat_map log_line l.log
