use Rattle.std.proofs.Common.{◌≡◌, ◌++◌, drop}
use Rattle.configuration.specs.Ranges.{all_names}
use Rattle.configuration.proofs.ranges.all_names.Given as goal

-- the names so far and those of the texts that are left are all
abbrev pub invariant-loop-text : goal.invariant-loop-text
invariant-loop-text l = l.names.items ++ all_names (drop l.text-index l.texts) ≡ all_names l.texts
