use Rattle.std.proofs.Common.{◌≡◌}
use Rattle.toml.specs.View.{table_view}
use Rattle.configuration.specs.Flaws.{unknown_key}
use Rattle.configuration.proofs.FlawLaws.{unknown_among}
use Rattle.configuration.proofs.key_flaws.unknown_key.Given as goal

-- the first unknown key of what is left is the table's
abbrev pub invariant-loop-key : goal.invariant-loop-key
invariant-loop-key l = record {
  can_next : (goal.iterator-loop-key).can_next l.key-iterator;
  is_finite : (goal.iterator-loop-key).is_finite l.key-iterator;
  left : unknown_among l.key-iterator ≡ unknown_key (table_view l.table);
}
