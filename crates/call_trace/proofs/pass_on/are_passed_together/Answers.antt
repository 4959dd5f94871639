use Rattle.std.proofs.lemmas.Bool.Decides.{Decides-at}
use Rattle.call_trace.proofs.CallTests.{decides_together}
use Rattle.call_trace.proofs.pass_on.are_passed_together.Goals as goal

pub returns : goal.returns
returns c = Decides-at _ _ c.is_together_at.ensures (decides_together c.args.trace.now c.args.x c.args.y)
