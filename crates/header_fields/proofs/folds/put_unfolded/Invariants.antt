use Rattle.std.proofs.Common.{◌≡◌, ℕ, List, ◌++◌, false, map}
use Rattle.std.specs.Option.{option_copied}
use Rattle.text.specs.Trim.{trimmed}
use Rattle.header_fields.specs.Glue.{glue, unfolded}
use Rattle.header_fields.specs.Folded.{lines_in, begun_by, unfolded_text}
use Rattle.header_fields.proofs.RawLoop.{bytes_left}
use Rattle.header_fields.proofs.folds.put_unfolded.Given as goal

-- what is written so far, and what the lines that are left say, is the whole
abbrev pub invariant-loop-rest : goal.invariant-loop-rest
invariant-loop-rest l = (value : List ℕ) × (l.out.items ≡ l.initial.out.items ++ value) × (l.is_begun ≡ begun_by false value) × (glue value (unfolded (map trimmed (lines_in (option_copied l.rest)))) ≡ unfolded_text l.raw)

abbrev pub decreases-loop-rest : goal.decreases-loop-rest
decreases-loop-rest l = bytes_left (option_copied l.rest)
