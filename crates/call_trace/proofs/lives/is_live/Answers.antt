use Rattle.std.proofs.lemmas.Bool.Decides.{Decides-at}
use Rattle.call_trace.proofs.LifeTests.{decides_live}
use Rattle.call_trace.proofs.lives.is_live.Goals as goal

pub returns : goal.returns
returns c = Decides-at _ _ c.live.ensures (decides_live c.args.trace.now c.args.dialog.now)
