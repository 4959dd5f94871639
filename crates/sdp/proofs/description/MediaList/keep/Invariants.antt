use Rattle.std.proofs.Common.{◌≡◌, ◌++◌, drop}
use Rattle.sdp.proofs.description.MediaList.keep.Given as goal

-- what is kept and what is left to keep are all
abbrev pub invariant-loop-medium : goal.invariant-loop-medium
invariant-loop-medium l = l.kept.items ++ drop l.medium-index l.media ≡ l.self
