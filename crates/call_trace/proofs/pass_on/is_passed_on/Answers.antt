use Rattle.std.proofs.lemmas.Bool.Decides.{Decides-at}
use Rattle.call_trace.proofs.CallTests.{decides_passed_on_at}
use Rattle.call_trace.proofs.pass_on.is_passed_on.Goals as goal

pub returns : goal.returns
returns c = Decides-at _ _ c.is_passed_on_at.ensures (decides_passed_on_at c.args.trace.now c.args.x c.args.y)
