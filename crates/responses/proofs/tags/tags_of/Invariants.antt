use Rattle.std.proofs.Common.{◌≡◌, ◌++◌, map, drop}
use Rattle.std.specs.List.{flat_map}
use Rattle.responses.specs.Tags.{tags_in}
use Rattle.responses.proofs.tags.tags_of.Given as goal

-- the tags so far and those of what is left are all
abbrev pub invariant-loop-text : goal.invariant-loop-text
invariant-loop-text l = map (λ t. t.now) l.tags.items ++ flat_map tags_in (drop l.text-index l.texts) ≡ flat_map tags_in l.texts
