use Rattle.std.proofs.Common.{arith}
use Rattle.std.proofs.lemmas.Result.{err_from_is_err_and}
use Rattle.timers.proofs.CallRuns.{some_made}
use Rattle.timers.proofs.calls.run.Goals as goal

pub returns-in_err-push-clause-err : goal.returns-in_err-push-clause-err
returns-in_err-push-clause-err g c =
    let p = err_from_is_err_and c.from_residual-in_err-push.result c.from_residual-in_err-push.ensures.1 in
    rw (p.1, c.in_ok-make_call.ensures.timers) (c.loop-call.invariant.some _ (some_made g.K.PartialEq.eq (g.T.DueTimers.timers c.loop-call.timers) c.args.calls.now c.loop-call.call-index c.call-item.result c.call-item.is (omega (arith, c.loop-call-test.true))))
