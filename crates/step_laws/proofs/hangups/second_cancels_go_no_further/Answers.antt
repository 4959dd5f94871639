use Rattle.step_laws.proofs.CancelEvents.{passed, waiting}
use Rattle.step_laws.proofs.hangups.second_cancels_go_no_further.Goals as goal

pub returns-clause-waiting : goal.returns-clause-waiting
returns-clause-waiting c = waiting (record { same = c.bytes_say_all.ensures.one; bytes = c.bytes_say_all.ensures.bytes; back = c.written_is_read.ensures }) c.bodies_describe.ensures c.sent_is_read.ensures

pub returns-clause-passed : goal.returns-clause-passed
returns-clause-passed c = passed (record { same = c.bytes_say_all.ensures.one; bytes = c.bytes_say_all.ensures.bytes; back = c.written_is_read.ensures }) c.bodies_describe.ensures c.sent_is_read.ensures
