use Rattle.event_plans.proofs.rows.fit_row.Goals as goal

pub returns-then-branch-clause-fits : goal.returns-then-branch-clause-fits
returns-then-branch-clause-fits c = c.drops_row.ensures.fits c.args.setting.now
