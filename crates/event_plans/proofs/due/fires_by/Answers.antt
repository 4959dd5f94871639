use Rattle.event_plans.proofs.due.fires_by.Goals as goal

pub returns-in_ok-moves-in-Ended-clause-fits : goal.returns-in_ok-moves-in-Ended-clause-fits
returns-in_ok-moves-in-Ended-clause-fits c = c.ends.ensures.fits c.args.office.now.calls c.args.setting.now
