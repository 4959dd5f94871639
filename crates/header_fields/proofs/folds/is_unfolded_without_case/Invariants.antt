use Rattle.std.proofs.Common.{◌≡◌, map}
use Rattle.std.specs.Option.{option_copied}
use Rattle.std.specs.Str.{str_eq_ignore_ascii_case}
use Rattle.text.specs.Trim.{trimmed}
use Rattle.header_fields.specs.Glue.{unfolded}
use Rattle.header_fields.specs.Folded.{lines_in, unfolded_text}
use Rattle.header_fields.proofs.RawLoop.{bytes_left, tail}
use Rattle.header_fields.proofs.folds.is_unfolded_without_case.Given as goal

-- what the lines that are left say is what is left to compare, exactly if the wholes are equal
abbrev pub invariant-loop-rest : goal.invariant-loop-rest
invariant-loop-rest l = str_eq_ignore_ascii_case (tail l.is_begun (unfolded (map trimmed (lines_in (option_copied l.rest))))) l.left ≡ str_eq_ignore_ascii_case (unfolded_text l.raw) l.other

abbrev pub decreases-loop-rest : goal.decreases-loop-rest
decreases-loop-rest l = bytes_left (option_copied l.rest)
