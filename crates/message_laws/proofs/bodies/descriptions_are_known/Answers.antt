use Rattle.message_laws.proofs.Messages.BodyRows.{after_bodies, known_bodies, new_bodies}
use Rattle.message_laws.proofs.bodies.descriptions_are_known.Goals as goal

pub returns-clause-begins : goal.returns-clause-begins
returns-clause-begins c = new_bodies

pub returns-clause-step : goal.returns-clause-step
returns-clause-step c = after_bodies c.bodies_describe.ensures

pub returns-clause-known : goal.returns-clause-known
returns-clause-known c = known_bodies c.bodies_describe.ensures
