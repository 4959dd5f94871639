use Rattle.step_laws.proofs.RefusalEvents.{refusals}
use Rattle.step_laws.proofs.answers.refusals_are_passed_on.Goals as goal

pub returns : goal.returns
returns c = refusals (record { same = c.bytes_say_all.ensures.one; bytes = c.bytes_say_all.ensures.bytes; back = c.written_is_read.ensures }) c.bodies_describe.ensures c.sent_is_read.ensures
