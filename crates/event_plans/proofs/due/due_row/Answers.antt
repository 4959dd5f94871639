use Rattle.event_plans.proofs.due.due_row.Goals as goal

pub returns-in-None-None-clause-fits : goal.returns-in-None-None-clause-fits
returns-in-None-None-clause-fits c = c.drops_row.ensures.fits c.args.setting.now
