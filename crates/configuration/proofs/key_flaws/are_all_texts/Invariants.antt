use Rattle.std.proofs.Common.{◌≡◌, drop}
use Rattle.toml.specs.View.{items_view}
use Rattle.configuration.specs.Flaws.{are_texts}
use Rattle.configuration.proofs.key_flaws.are_all_texts.Given as goal

-- each value so far is a text
abbrev pub invariant-loop-value : goal.invariant-loop-value
invariant-loop-value l = are_texts (items_view (drop l.value-index l.array.items)) ≡ are_texts (items_view l.array.items)
