use Rattle.std.proofs.lemmas.Bool.Decides.{Decides-at}
use Rattle.call_trace.proofs.ExchangeTests.{decides_exchange}
use Rattle.call_trace.proofs.exchange.is_exchange.Goals as goal

pub returns : goal.returns
returns c = Decides-at _ _ c.is_exchange_at.ensures (decides_exchange c.args.methods.now c.args.trace.now c.args.dialog.now c.args.at)
