use Rattle.event_plans.proofs.rows.datagram_row.Goals as goal

pub returns-in_ok-unread_row-in-Err-clause-fits : goal.returns-in_ok-unread_row-in-Err-clause-fits
returns-in_ok-unread_row-in-Err-clause-fits c = c.alone.ensures.fits c.args.office.now.calls c.args.setting.now
