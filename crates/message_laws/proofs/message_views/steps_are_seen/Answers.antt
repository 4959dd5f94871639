use Rattle.message_laws.proofs.Messages.SeenActions.{alone_said, first_said, step_said}
use Rattle.message_laws.proofs.message_views.steps_are_seen.Goals as goal

pub returns-clause-step : goal.returns-clause-step
returns-clause-step c = step_said c.bodies_describe.ensures c.sent_is_read.ensures

pub returns-clause-first : goal.returns-clause-first
returns-clause-first c = first_said c.bodies_describe.ensures c.sent_is_read.ensures

pub returns-clause-alone : goal.returns-clause-alone
returns-clause-alone c = alone_said c.bodies_describe.ensures
