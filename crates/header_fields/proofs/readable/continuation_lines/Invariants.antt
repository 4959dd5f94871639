use Rattle.std.proofs.Common.{◌≡◌, ◌++◌, take, drop}
use Rattle.header_fields.specs.Lines.{texts}
use Rattle.header_fields.specs.Fields.{continued}
use Rattle.header_fields.proofs.readable.continuation_lines.Given as goal

-- all lines so far continue, and so do those of what is left
abbrev pub invariant-loop-at : goal.invariant-loop-at
invariant-loop-at l = texts (take l.at l.lines) ++ continued (texts (drop l.at l.lines)) ≡ continued (texts l.lines)
