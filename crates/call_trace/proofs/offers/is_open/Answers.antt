use Rattle.std.proofs.lemmas.Bool.Decides.{Decides-at}
use Rattle.call_trace.proofs.LifeTests.{decides_open}
use Rattle.call_trace.proofs.offers.is_open.Goals as goal

pub returns : goal.returns
returns c = Decides-at _ _ c.open_in.ensures (decides_open c.args.methods.now c.args.trace.now c.args.dialog.now)
