use Rattle.event_plans.proofs.rows.rule_row.Goals as goal

pub returns-in_ok-reply_row-in-Alone-clause-fits : goal.returns-in_ok-reply_row-in-Alone-clause-fits
returns-in_ok-reply_row-in-Alone-clause-fits c = c.alone.ensures.fits c.args.office.now.calls c.args.setting.now
