use Rattle.std.proofs.Common.{◌≡◌, drop, false}
use Rattle.sip_uri.specs.Quoted.{fits_quotes}
use Rattle.sip_uri.proofs.quotes.fits_quotes.Given as goal

abbrev pub invariant-loop-b : goal.invariant-loop-b
invariant-loop-b l = fits_quotes l.escaped (drop l.b-index l.text) ≡ fits_quotes false l.text
