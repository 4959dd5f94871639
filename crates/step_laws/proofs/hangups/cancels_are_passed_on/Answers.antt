use Rattle.step_laws.proofs.CancelEvents.{inside, inside_silent, rung, silent}
use Rattle.step_laws.proofs.hangups.cancels_are_passed_on.Goals as goal

pub returns-clause-rung : goal.returns-clause-rung
returns-clause-rung c = rung (record { same = c.bytes_say_all.ensures.one; bytes = c.bytes_say_all.ensures.bytes; back = c.written_is_read.ensures }) c.bodies_describe.ensures c.sent_is_read.ensures

pub returns-clause-silent : goal.returns-clause-silent
returns-clause-silent c = silent (record { same = c.bytes_say_all.ensures.one; bytes = c.bytes_say_all.ensures.bytes; back = c.written_is_read.ensures }) c.bodies_describe.ensures c.sent_is_read.ensures

pub returns-clause-inside : goal.returns-clause-inside
returns-clause-inside c = inside (record { same = c.bytes_say_all.ensures.one; bytes = c.bytes_say_all.ensures.bytes; back = c.written_is_read.ensures }) c.bodies_describe.ensures c.sent_is_read.ensures

pub returns-clause-inside_silent : goal.returns-clause-inside_silent
returns-clause-inside_silent c = inside_silent (record { same = c.bytes_say_all.ensures.one; bytes = c.bytes_say_all.ensures.bytes; back = c.written_is_read.ensures }) c.bodies_describe.ensures c.sent_is_read.ensures
