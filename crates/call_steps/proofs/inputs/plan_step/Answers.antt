use Rattle.call_steps.proofs.inputs.plan_step.Goals as goal

pub returns-in-Ok-clause-said : goal.returns-in-Ok-clause-said
returns-in-Ok-clause-said c = c.with_messages.ensures.said c.args.pool.now c.args.occasion.now

pub returns-in-Ok-clause-note : goal.returns-in-Ok-clause-note
returns-in-Ok-clause-note c = c.with_messages.ensures.note c.args.pool.now c.args.occasion.now

pub returns-in-Ok-clause-refused : goal.returns-in-Ok-clause-refused
returns-in-Ok-clause-refused c = c.with_messages.ensures.refused c.args.call.now.call c.args.pool.now c.args.input.now c.args.occasion.now

pub returns-in-Err-clause-refused : goal.returns-in-Err-clause-refused
returns-in-Err-clause-refused c = c.in-Err.ensures.refused
