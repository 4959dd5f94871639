use Rattle.std.proofs.Common.{◌≡◌, drop, false}
use Rattle.sip_uri.specs.Quoted.{plus, closing_quote}
use Rattle.sip_uri.proofs.quotes.closing_quote.Given as goal

abbrev pub invariant-loop-at : goal.invariant-loop-at
invariant-loop-at l = plus l.at (closing_quote l.escaped (drop l.at l.text)) ≡ closing_quote false l.text
