use Rattle.std.proofs.Common.{◌∙◌}
use Rattle.calls.specs.State.{standing}
use Rattle.call_steps.specs.Effects.{with_timers}
use Rattle.call_steps.specs.Values.{coming_value}
use Rattle.call_steps.proofs.StepLaws.{does_as_planned, lacks_memory}
use Rattle.call_steps.proofs.inputs.takes_at.Goals as goal

-- what is said hangs on no pool
pub returns-in-Ok-step_of-clause-row : goal.returns-in-Ok-step_of-clause-row
returns-in-Ok-step_of-clause-row c = λ timers.
    let calls = with_timers timers (standing c.args.calls.now) in
    let row = rw c.pool.ensures at c.in-Ok.ensures.row in
    c.in-Ok-step_of.ensures.row calls c.args.occasion.now
    ∙ does_as_planned calls c.args.table.now c.args.occasion c.args.place c.args.input.now (coming_value c.args.coming) c.args.call.now c.in-Ok.planned.plan c.in-Ok.planned.said c.in-Ok.planned.note c.requires.there row c.in-Ok.ensures.said c.in-Ok.ensures.note

pub returns-in-Err-clause-refused : goal.returns-in-Err-clause-refused
returns-in-Err-clause-refused c = rw c.pool.ensures at c.in-Err.ensures.refused

pub returns-in-Err-step_of-clause-refused : goal.returns-in-Err-step_of-clause-refused
returns-in-Err-step_of-clause-refused c = lacks_memory c.args.call.now.call c.args.calls.now.pool c.args.input.now c.args.occasion.now
