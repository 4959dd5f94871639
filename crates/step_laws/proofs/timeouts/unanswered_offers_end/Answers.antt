use Rattle.step_laws.proofs.Expiry.{inside, inside_ringing, ringing, unanswered}
use Rattle.step_laws.proofs.timeouts.unanswered_offers_end.Goals as goal

pub returns-clause-ringing : goal.returns-clause-ringing
returns-clause-ringing c = ringing (record { same = c.bytes_say_all.ensures.one; bytes = c.bytes_say_all.ensures.bytes; back = c.written_is_read.ensures }) c.bodies_describe.ensures c.sent_is_read.ensures

pub returns-clause-inside_ringing : goal.returns-clause-inside_ringing
returns-clause-inside_ringing c = inside_ringing (record { same = c.bytes_say_all.ensures.one; bytes = c.bytes_say_all.ensures.bytes; back = c.written_is_read.ensures }) c.bodies_describe.ensures c.sent_is_read.ensures

pub returns-clause-unanswered : goal.returns-clause-unanswered
returns-clause-unanswered c = unanswered (record { same = c.bytes_say_all.ensures.one; bytes = c.bytes_say_all.ensures.bytes; back = c.written_is_read.ensures }) c.bodies_describe.ensures c.sent_is_read.ensures

pub returns-clause-inside : goal.returns-clause-inside
returns-clause-inside c = inside (record { same = c.bytes_say_all.ensures.one; bytes = c.bytes_say_all.ensures.bytes; back = c.written_is_read.ensures }) c.bodies_describe.ensures c.sent_is_read.ensures
