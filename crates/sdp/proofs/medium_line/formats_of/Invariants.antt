use Rattle.std.proofs.Common.{◌≡◌, map}
use Rattle.sdp.proofs.medium_line.formats_of.Given as goal

abbrev pub invariant-loop-format : goal.invariant-loop-format
invariant-loop-format l = l.formats.items ≡ map (λ x. x.now) l.yielded
