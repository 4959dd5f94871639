use Rattle.std.proofs.Common.{◌≡◌, ◌++◌, drop}
use Rattle.header_fields.specs.Fields.{readable_headers}
use Rattle.header_fields.specs.Lines.{texts}
use Rattle.header_fields.proofs.readable.readable_headers.Given as goal

-- the headers so far and those of what is left are all
abbrev pub invariant-loop-at : goal.invariant-loop-at
invariant-loop-at l = l.headers.items ++ readable_headers (texts (drop l.at l.lines)) ≡ readable_headers (texts l.lines)
