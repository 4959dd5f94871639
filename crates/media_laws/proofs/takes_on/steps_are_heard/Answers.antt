use Rattle.media_laws.proofs.EndTags.HeardSteps.{step_heard}
use Rattle.media_laws.proofs.takes_on.steps_are_heard.Goals as goal

pub returns : goal.returns
returns c = step_heard (record { same = c.bytes_say_all.ensures.one; bytes = c.bytes_say_all.ensures.bytes; back = c.written_is_read.ensures }) c.bodies_describe.ensures c.sent_is_read.ensures
