use Rattle.std.proofs.lemmas.Bool.Decides.{Decides-at}
use Rattle.call_trace.proofs.ExchangeTests.{decides_last}
use Rattle.call_trace.proofs.exchange.is_last.Goals as goal

pub returns : goal.returns
returns c = Decides-at _ _ c.is_last_at.ensures (decides_last c.args.methods.now c.args.trace.now c.args.dialog.now c.args.at)
