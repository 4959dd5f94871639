use Rattle.std.proofs.Common.{◌≡◌, drop, false}
use Rattle.sip_uri.specs.Hosts.{goes_on}
use Rattle.sip_uri.proofs.hosts.is_name.Given as goal

abbrev pub invariant-loop-b : goal.invariant-loop-b
invariant-loop-b l = goes_on l.last l.letter (drop l.b-index l.text) ≡ goes_on 46 false l.text
