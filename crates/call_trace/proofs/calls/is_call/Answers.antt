use Rattle.std.proofs.lemmas.Bool.Decides.{Decides-at}
use Rattle.call_trace.proofs.CallTests.{decides_call}
use Rattle.call_trace.proofs.calls.is_call.Goals as goal

pub returns : goal.returns
returns c = Decides-at _ _ c.are_call.ensures (decides_call c.args.methods.now c.args.trace.now c.args.dx.now c.args.dy.now)
