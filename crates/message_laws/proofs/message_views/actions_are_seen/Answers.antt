use Rattle.message_laws.proofs.Messages.SeenActions.{action_said, actions_said}
use Rattle.message_laws.proofs.message_views.actions_are_seen.Goals as goal

pub returns-clause-one : goal.returns-clause-one
returns-clause-one c = action_said c.bodies_describe.ensures

pub returns-clause-all : goal.returns-clause-all
returns-clause-all c = actions_said c.bodies_describe.ensures
