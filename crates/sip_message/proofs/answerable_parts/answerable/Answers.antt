use Rattle.sip_message.proofs.RepeatableLaws.{behind_at}
use Rattle.sip_message.proofs.answerable_parts.answerable.Goals as goal

pub returns-in-Some-clause-repeatable : goal.returns-in-Some-clause-repeatable
returns-in-Some-clause-repeatable c = behind_at c.in-Some.rest.now c.parts_behind.result c.parts_behind.ensures
