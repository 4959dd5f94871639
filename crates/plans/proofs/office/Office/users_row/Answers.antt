use Rattle.plans.proofs.office.Office.users_row.Goals as goal

pub returns-clause-fits : goal.returns-clause-fits
returns-clause-fits c = c.alone.ensures.fits c.args.self.now.calls
