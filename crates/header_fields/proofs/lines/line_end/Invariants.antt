use Rattle.std.proofs.Common.{◌≡◌, drop}
use Rattle.header_fields.specs.Lines.{plus, line_end}
use Rattle.header_fields.proofs.lines.line_end.Given as goal

-- the end of the whole is as far in as that of what is left
abbrev pub invariant-loop-at : goal.invariant-loop-at
invariant-loop-at l = plus l.at (line_end (drop l.at l.text)) ≡ line_end l.text
