use Rattle.plans.proofs.office.Office.refuses_first.Goals as goal

pub returns-clause-fits : goal.returns-clause-fits
returns-clause-fits c = c.alone.ensures.fits c.args.self.now.calls c.args.setting.now
