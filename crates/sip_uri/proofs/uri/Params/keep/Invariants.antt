use Rattle.std.proofs.Common.{◌≡◌, ◌++◌, drop}
use Rattle.sip_uri.proofs.uri.Params.keep.Given as goal

-- the parameters so far, and those that are left, are all
abbrev pub invariant-loop-param : goal.invariant-loop-param
invariant-loop-param l = l.entries.items ++ drop l.param-index l.params ≡ l.self
