use Rattle.plans.proofs.office.Office.call_timer_row.Goals as goal

pub returns-in_ok-moves-in-None-clause-fits : goal.returns-in_ok-moves-in-None-clause-fits
returns-in_ok-moves-in-None-clause-fits c = c.of_fired_timer.ensures.fits c.args.self.now.calls c.args.setting.now
