use Rattle.step_laws.proofs.Ringing.{cancels_first, cancels_inside, passes}
use Rattle.step_laws.proofs.provisionals.provisionals_are_passed_on.Goals as goal

pub returns-clause-passed : goal.returns-clause-passed
returns-clause-passed c = passes (record { same = c.bytes_say_all.ensures.one; bytes = c.bytes_say_all.ensures.bytes; back = c.written_is_read.ensures }) c.bodies_describe.ensures c.sent_is_read.ensures

pub returns-clause-kept : goal.returns-clause-kept
returns-clause-kept c = cancels_inside (record { same = c.bytes_say_all.ensures.one; bytes = c.bytes_say_all.ensures.bytes; back = c.written_is_read.ensures }) c.bodies_describe.ensures c.sent_is_read.ensures

pub returns-clause-given_up : goal.returns-clause-given_up
returns-clause-given_up c = cancels_first (record { same = c.bytes_say_all.ensures.one; bytes = c.bytes_say_all.ensures.bytes; back = c.written_is_read.ensures }) c.bodies_describe.ensures c.sent_is_read.ensures
