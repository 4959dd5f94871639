use Rattle.message_laws.proofs.Messages.ReadMessages.{message_reads, name_reads}
use Rattle.message_laws.proofs.Traces.Scenes.{alone_says, first_says, step_says, stopped_scenes}
use Rattle.message_laws.proofs.steps.steps_are_said.Goals as goal

pub returns-clause-step : goal.returns-clause-step
returns-clause-step c = λ s e place call input w k there can. step_says c.sent_is_read.ensures s e place call input w k there can c.bodies_describe.ensures

pub returns-clause-first : goal.returns-clause-first
returns-clause-first c =
    first_says c.sent_is_read.ensures c.bodies_describe.ensures (record { message = message_reads; name = name_reads; callee = c.dialogs_are_sound.ensures.callee; contact = c.contacts_are_read.ensures })

pub returns-clause-alone : goal.returns-clause-alone
returns-clause-alone c = alone_says c.bodies_describe.ensures

pub returns-clause-timer : goal.returns-clause-timer
returns-clause-timer c = stopped_scenes
