use Rattle.std.proofs.Common.{◌≡◌, ◌++◌, map, drop}
use Rattle.responses.specs.Tags.{behind_comma}
use Rattle.responses.proofs.tags.put_behind_comma.Given as goal

-- what is written and what is left to write are all
abbrev pub invariant-loop-tag : goal.invariant-loop-tag
invariant-loop-tag l = l.out.items ++ behind_comma (map (λ t. t.now) (drop l.tag-index l.tags)) ≡ l.fn.out.items ++ behind_comma (map (λ t. t.now) l.tags)
