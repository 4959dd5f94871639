use Rattle.plans.proofs.office.Office.responds_by.Goals as goal

pub returns-in_ok-acks_again-in-Again-clause-fits : goal.returns-in_ok-acks_again-in-Again-clause-fits
returns-in_ok-acks_again-in-Again-clause-fits c = c.alone.ensures.fits c.args.self.now.calls c.args.setting.now
