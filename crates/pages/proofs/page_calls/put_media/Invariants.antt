use Rattle.std.proofs.Common.{◌≡◌, ◌++◌, drop}
use Rattle.std.specs.List.{flat_map}
use Rattle.pages.specs.Calls.{medium_text}
use Rattle.pages.proofs.page_calls.put_media.Given as goal

-- what was written and what is left are all
abbrev pub invariant-loop-medium : goal.invariant-loop-medium
invariant-loop-medium l = l.out.items ++ flat_map medium_text (drop l.medium-index l.media) ≡ l.fn.out.items ++ flat_map medium_text l.media
