use Rattle.std.proofs.Common.{◌≡◌, sym, subst}
use Rattle.std.specs.Prelude.{IfOk}
use Rattle.call_core.specs.CallRows.{call_row, step_in}
use Rattle.call_core.specs.Plans.{carried}
use Rattle.call_core.proofs.call.Call.plan_take.Goals as goal

pub returns-in-None-clause-row : goal.returns-in-None-clause-row
unfolding call_row
returns-in-None-clause-row c = rw c.in-None.is (c.plan_nothing.ensures.row c.args.pool.now c.args.now)

pub returns-in-None-clause-planned : goal.returns-in-None-clause-planned
returns-in-None-clause-planned c = c.plan_nothing.ensures.planned c.args.pool.now c.args.now

pub returns-in-Some-clause-row : goal.returns-in-Some-clause-row
unfolding call_row
returns-in-Some-clause-row c =
    subst (λ s. IfOk c.plan_at.result (λ p. carried c.args.self.now c.args.pool.now c.args.now p ≡ step_in c.args.self.now s c.args.input.now c.args.pool.now c.args.now))
    (sym c.in-Some.is) c.plan_at.ensures.row
