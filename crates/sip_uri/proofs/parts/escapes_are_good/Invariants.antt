use Rattle.std.proofs.Common.{◌≡◌, length}
use Rattle.sip_uri.specs.RawUri.{escapes_well}
use Rattle.sip_uri.proofs.parts.escapes_are_good.Given as goal

abbrev pub invariant-loop-rest : goal.invariant-loop-rest
invariant-loop-rest l = escapes_well l.rest ≡ escapes_well l.text

abbrev pub decreases-loop-rest : goal.decreases-loop-rest
decreases-loop-rest l = length l.rest
