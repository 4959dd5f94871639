use Rattle.std.proofs.lemmas.Bool.Decides.{Decides-at}
use Rattle.call_trace.proofs.LifeTests.{decides_begun}
use Rattle.call_trace.proofs.lives.has_begun.Goals as goal

pub returns : goal.returns
returns c = Decides-at _ _ c.begun.ensures (decides_begun c.args.trace.now c.args.dialog.now)
