use Rattle.std.proofs.Common.{◌≡◌, ◌∷◌, map, drop}
use Rattle.text.specs.Trim.{trimmed}
use Rattle.header_fields.specs.Lines.{texts}
use Rattle.header_fields.specs.Glue.{glue, unfolded}
use Rattle.header_fields.proofs.readable.unfold.Given as goal

-- the value so far, and the pieces that are left, are the whole
abbrev pub invariant-loop-line : goal.invariant-loop-line
invariant-loop-line l = glue l.value.items (unfolded (map trimmed (texts (drop l.line-index l.more)))) ≡ unfolded (map trimmed (l.begun ∷ texts l.more))
