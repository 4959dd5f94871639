use Rattle.std.proofs.Common.{◌≡◌, ◌++◌, map, filter, drop}
use Rattle.text.specs.Trim.{trimmed}
use Rattle.responses.specs.Tags.{is_some_text, tags_in}
use Rattle.responses.proofs.tags.push_tags.Given as goal

-- the tags so far and those of what is left are all
abbrev pub invariant-loop-piece : goal.invariant-loop-piece
invariant-loop-piece l =
    map (λ t. t.now) l.tags.items ++ filter is_some_text (map trimmed (map (λ p. p.now) (drop l.piece-index l.piece-items))) ≡ map (λ t. t.now) l.fn.tags.items ++ tags_in l.value
