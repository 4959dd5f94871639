use Rattle.event_plans.proofs.rows.response_by.Goals as goal

pub returns-in-New-clause-fits : goal.returns-in-New-clause-fits
returns-in-New-clause-fits c = c.drops_row.ensures.fits c.args.setting.now

pub returns-in-Stray-clause-fits : goal.returns-in-Stray-clause-fits
returns-in-Stray-clause-fits c = c.drops_row-in-Stray.ensures.fits c.args.setting.now
