use Rattle.event_plans.proofs.rows.read_row.Goals as goal

pub returns-then-not-has_fit_branch-clause-fits : goal.returns-then-not-has_fit_branch-clause-fits
returns-then-not-has_fit_branch-clause-fits c = c.alone.ensures.fits c.args.office.now.calls c.args.setting.now
