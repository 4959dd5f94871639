use Rattle.step_laws.proofs.LifetimeEvents.{fallen_silent, lifetime_over}
use Rattle.step_laws.proofs.LifetimeTimers.{begins}
use Rattle.step_laws.proofs.lifetimes.calls_end_with_their_lifetimes.Goals as goal

pub returns-clause-over : goal.returns-clause-over
returns-clause-over c = lifetime_over (record { same = c.bytes_say_all.ensures.one; bytes = c.bytes_say_all.ensures.bytes; back = c.written_is_read.ensures }) c.bodies_describe.ensures c.sent_is_read.ensures

pub returns-clause-silent : goal.returns-clause-silent
returns-clause-silent c = fallen_silent (record { same = c.bytes_say_all.ensures.one; bytes = c.bytes_say_all.ensures.bytes; back = c.written_is_read.ensures }) c.bodies_describe.ensures c.sent_is_read.ensures

pub returns-clause-begins : goal.returns-clause-begins
returns-clause-begins c = begins
