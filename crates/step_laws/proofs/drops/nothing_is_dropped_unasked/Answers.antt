use Rattle.event_rows.specs.Trace.{after_entries}
use Rattle.step_laws.proofs.Fireable.{agents_fire}
use Rattle.step_laws.proofs.Unasked.{nothing_unasked}
use Rattle.step_laws.proofs.drops.nothing_is_dropped_unasked.Goals as goal

pub returns-clause-reasons : goal.returns-clause-reasons
returns-clause-reasons c = nothing_unasked

pub returns-clause-fireable : goal.returns-clause-fireable
returns-clause-fireable c = agents_fire

pub returns-clause-agents : goal.returns-clause-agents
returns-clause-agents c = λ config s entries new are event. nothing_unasked (after_entries s entries) (agents_fire config s entries new are) event
