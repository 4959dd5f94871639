use Rattle.std.proofs.lemmas.Bool.Decides.{Decides-at}
use Rattle.call_trace.proofs.LastTests.{decides_are_last}
use Rattle.call_trace.proofs.last_exchanges.are_last.Goals as goal

pub returns : goal.returns
returns c = Decides-at _ _ c.last_together.ensures (decides_are_last c.args.methods.now c.args.trace.now c.args.dx.now c.args.dy.now c.args.x c.args.y)
