use Rattle.std.proofs.Common.{◌≡◌, ◌++◌, drop}
use Rattle.sdp.proofs.keep.keep_formats.Given as goal

-- what is kept and what is left to keep are all
abbrev pub invariant-loop-format : goal.invariant-loop-format
invariant-loop-format l = l.kept.items ++ drop l.format-index l.formats ≡ l.formats
