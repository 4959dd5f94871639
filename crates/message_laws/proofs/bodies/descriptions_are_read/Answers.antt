use Rattle.message_laws.proofs.Messages.ReadBodies.{body_read, description_seen}
use Rattle.message_laws.proofs.bodies.descriptions_are_read.Goals as goal

pub returns-clause-read : goal.returns-clause-read
returns-clause-read c = body_read c.bodies_describe.ensures

pub returns-clause-seen : goal.returns-clause-seen
returns-clause-seen c = description_seen
