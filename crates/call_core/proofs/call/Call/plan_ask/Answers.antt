use Rattle.std.proofs.Common.{refl}
use Rattle.call_core.specs.CallRows.{first_call_row}
use Rattle.call_core.proofs.call.Call.plan_ask.Goals as goal

pub returns-clause-row : goal.returns-clause-row
unfolding first_call_row
returns-clause-row c =
    rw (c.plan_of.ensures, c.none.ensures, c.in_ok-row.ensures, c.in_ok-planned.ensures.offer, c.in_ok-planned.ensures.fresh) refl
