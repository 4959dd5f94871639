use Rattle.std.proofs.Common.{◌≡◌, ◌++◌, drop}
use Rattle.toml.specs.View.{items_view}
use Rattle.configuration.specs.Files.{texts_in}
use Rattle.configuration.proofs.fields.texts_in.Given as goal

-- the texts so far and those of what is left are all
abbrev pub invariant-loop-value : goal.invariant-loop-value
invariant-loop-value l = l.texts.items ++ texts_in (items_view (drop l.value-index l.array.items)) ≡ texts_in (items_view l.array.items)
