use Rattle.event_plans.proofs.rows.message_row.Goals as goal

pub returns-in-Err-Full-clause-fits : goal.returns-in-Err-Full-clause-fits
returns-in-Err-Full-clause-fits c = c.drops_row.ensures.fits c.args.setting.now
