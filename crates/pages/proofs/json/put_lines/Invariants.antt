use Rattle.std.proofs.Common.{◌≡◌, ◌++◌, drop}
use Rattle.std.specs.List.{flat_map}
use Rattle.pages.specs.Pieces.{behind_comma, listed}
use Rattle.pages.specs.Json.{line_string}
use Rattle.pages.proofs.json.put_lines.Given as goal

-- what was written and what is left are all
abbrev pub invariant-loop-line : goal.invariant-loop-line
invariant-loop-line l = l.out.items ++ flat_map (behind_comma line_string) (drop l.line-index l.rest) ≡ l.fn.out.items ++ listed line_string l.log
