use Rattle.step_laws.proofs.AckEvents.{left, left_unacknowledged, repeated, settled, unacknowledged}
use Rattle.step_laws.proofs.ByeEvents.{both_left}
use Rattle.step_laws.proofs.acks.answers_wait_for_their_acks.Goals as goal

pub returns-clause-settled : goal.returns-clause-settled
returns-clause-settled c = settled (record { same = c.bytes_say_all.ensures.one; bytes = c.bytes_say_all.ensures.bytes; back = c.written_is_read.ensures }) c.bodies_describe.ensures c.sent_is_read.ensures

pub returns-clause-left : goal.returns-clause-left
returns-clause-left c = left (record { same = c.bytes_say_all.ensures.one; bytes = c.bytes_say_all.ensures.bytes; back = c.written_is_read.ensures }) c.bodies_describe.ensures c.sent_is_read.ensures

pub returns-clause-repeated : goal.returns-clause-repeated
returns-clause-repeated c = repeated (record { same = c.bytes_say_all.ensures.one; bytes = c.bytes_say_all.ensures.bytes; back = c.written_is_read.ensures }) c.bodies_describe.ensures c.sent_is_read.ensures

pub returns-clause-unacknowledged : goal.returns-clause-unacknowledged
returns-clause-unacknowledged c = unacknowledged (record { same = c.bytes_say_all.ensures.one; bytes = c.bytes_say_all.ensures.bytes; back = c.written_is_read.ensures }) c.bodies_describe.ensures c.sent_is_read.ensures

pub returns-clause-left_unacknowledged : goal.returns-clause-left_unacknowledged
returns-clause-left_unacknowledged c = left_unacknowledged (record { same = c.bytes_say_all.ensures.one; bytes = c.bytes_say_all.ensures.bytes; back = c.written_is_read.ensures }) c.bodies_describe.ensures c.sent_is_read.ensures

pub returns-clause-both_left : goal.returns-clause-both_left
returns-clause-both_left c = both_left (record { same = c.bytes_say_all.ensures.one; bytes = c.bytes_say_all.ensures.bytes; back = c.written_is_read.ensures }) c.bodies_describe.ensures c.sent_is_read.ensures
