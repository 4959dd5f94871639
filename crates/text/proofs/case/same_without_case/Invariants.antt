use Rattle.std.proofs.Common.{◌≡◌, length, map, take}
use Rattle.std.specs.Char.{to_ascii_lowercase}
use Rattle.text.proofs.case.same_without_case.Given as goal

-- what has been compared is equal except for the case
abbrev pub invariant-loop-at : goal.invariant-loop-at
invariant-loop-at l = (l.at-end ≡ length l.a) × (length l.a ≡ length l.b) × (map to_ascii_lowercase (take l.at l.a) ≡ map to_ascii_lowercase (take l.at l.b))
