use Rattle.std.proofs.Common.{◌≡◌, take, filter}
use Rattle.offer_answer.specs.Direct.{is_answered}
use Rattle.offer_answer.proofs.direct.matching_formats.Given as goal

-- what was found so far
abbrev pub invariant-loop-format : goal.invariant-loop-format
invariant-loop-format l = l.found.items ≡ filter (is_answered l.offer l.answer) (take l.format-index l.format-items)
