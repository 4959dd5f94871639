use Rattle.std.proofs.Common.{◌≡◌, drop}
use Rattle.std.specs.List.{list_all}
use Rattle.header_fields.specs.Fields.{is_continuing}
use Rattle.header_fields.specs.Lines.{texts}
use Rattle.header_fields.proofs.readable.all_continuing.Given as goal

-- those so far continue, so that what is left decides
abbrev pub invariant-loop-line : goal.invariant-loop-line
invariant-loop-line l = list_all is_continuing (texts (drop l.line-index l.lines)) ≡ list_all is_continuing (texts l.lines)
