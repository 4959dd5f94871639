use Rattle.std.proofs.Common.{◌≡◌, ◌++◌, drop}
use Rattle.std.specs.List.{flat_map}
use Rattle.pages.specs.Pieces.{behind_comma, listed}
use Rattle.pages.specs.JsonCalls.{medium_object}
use Rattle.pages.proofs.json_calls.put_media.Given as goal

-- what was written and what is left are all
abbrev pub invariant-loop-medium : goal.invariant-loop-medium
invariant-loop-medium l = l.out.items ++ flat_map (behind_comma medium_object) (drop l.medium-index l.rest) ≡ l.fn.out.items ++ listed medium_object l.media
