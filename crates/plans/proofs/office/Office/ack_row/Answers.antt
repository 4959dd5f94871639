use Rattle.plans.proofs.office.Office.ack_row.Goals as goal

pub returns-in-None-clause-fits : goal.returns-in-None-clause-fits
returns-in-None-clause-fits c = c.drops_row.ensures.fits c.args.setting.now
