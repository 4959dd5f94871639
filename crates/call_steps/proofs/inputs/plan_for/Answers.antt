use Rattle.call_steps.proofs.inputs.plan_for.Goals as goal

pub returns-clause-row : goal.returns-clause-row
returns-clause-row c = c.plan_take.ensures.row

pub returns-clause-planned : goal.returns-clause-planned
returns-clause-planned c = c.plan_take.ensures.planned

pub returns-clause-refused : goal.returns-clause-refused
returns-clause-refused c = c.plan_take.ensures.refused

pub returns-clause-may : goal.returns-clause-may
returns-clause-may c = c.plan_take.ensures.may
