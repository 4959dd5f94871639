use Rattle.media_laws.proofs.Scenes.MachineEvents.{after_machines, known_machines, new_machines}
use Rattle.media_laws.proofs.machines.machines_are_known.Goals as goal

pub returns-clause-begins : goal.returns-clause-begins
returns-clause-begins c = new_machines

pub returns-clause-step : goal.returns-clause-step
returns-clause-step c = after_machines

pub returns-clause-known : goal.returns-clause-known
returns-clause-known c = known_machines
