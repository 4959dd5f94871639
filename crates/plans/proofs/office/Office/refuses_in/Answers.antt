use Rattle.plans.proofs.office.Office.refuses_in.Goals as goal

pub returns-clause-fits : goal.returns-clause-fits
returns-clause-fits c = c.counts_its_number.ensures.fits c.args.setting.now
