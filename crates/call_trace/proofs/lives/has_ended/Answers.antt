use Rattle.std.proofs.lemmas.Bool.Decides.{Decides-at}
use Rattle.call_trace.proofs.LifeTests.{decides_ended}
use Rattle.call_trace.proofs.lives.has_ended.Goals as goal

pub returns : goal.returns
returns c = Decides-at _ _ c.ended.ensures (decides_ended c.args.trace.now c.args.dialog.now)
