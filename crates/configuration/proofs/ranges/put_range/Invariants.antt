use Rattle.std.proofs.Common.{◌≡◌, ◌++◌, ◌+◌, ◌-◌}
use Rattle.configuration.specs.Ranges.{numerals, names_in}
use Rattle.configuration.proofs.ranges.put_range.Given as goal

-- the numbers so far and those that are left are all
abbrev pub invariant-loop-number : goal.invariant-loop-number
invariant-loop-number l = l.names.items ++ numerals l.range.digits l.number (l.range.last + 1 - l.number) ≡ l.initial.names.items ++ names_in l.range
