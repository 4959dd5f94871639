use Rattle.std.proofs.Common.{refl}
use Rattle.call_core.proofs.call.Call.plan_passing.Goals as goal

pub returns-in-Ok-clause-row : goal.returns-in-Ok-clause-row
returns-in-Ok-clause-row c =
    rw (c.plan_of.ensures, c.to.ensures, c.in-Ok.ensures.number, c.in_ok-planned.ensures.offer, c.in_ok-planned.ensures.fresh, c.other-across.ensures) refl
