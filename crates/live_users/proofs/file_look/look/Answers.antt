use Rattle.live_users.proofs.LookLaws.{restored}
use Rattle.live_users.proofs.file_look.look.Goals as goal

pub returns-clause-err : goal.returns-clause-err
returns-clause-err g c =
    restored c.tell.result c.look-look.result c.args.file.now c.report_at.new.file c.tell.new.file c.in_ok-report.report c.is_refused-was_refused.result
    c.is_refused-was_refused.ensures c.in_ok-report.ensures.report c.tell.ensures.err
