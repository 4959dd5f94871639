use Rattle.std.proofs.Common.{◌≡◌, ◌++◌, drop}
use Rattle.std.specs.List.{flat_map}
use Rattle.sdp.specs.Writing.{media_lines, ended}
use Rattle.sdp.proofs.write.put_all_media.Given as goal

-- what is written and what is left to write are all
abbrev pub invariant-loop-medium : goal.invariant-loop-medium
invariant-loop-medium l = l.out.items ++ ended (flat_map media_lines (drop l.medium-index l.media)) ≡ l.fn.out.items ++ ended (flat_map media_lines l.media)
