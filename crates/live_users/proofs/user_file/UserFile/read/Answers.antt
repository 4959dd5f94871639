use Rattle.live_users.proofs.ReportLaws.{right_bytes}
use Rattle.live_users.proofs.user_file.UserFile.read.Goals as goal

pub returns-in-Ok-clause-report : goal.returns-in-Ok-clause-report
returns-in-Ok-clause-report c =
    right_bytes c.accept.result c.args.self.now c.args.bytes.now c.in-Ok.config c.as_slice.result.now c.in-Ok.ensures.found c.as_slice.ensures c.accept.ensures.report
