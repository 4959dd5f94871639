use Rattle.message_laws.proofs.Messages.ReadMessages.{message_reads, name_reads}
use Rattle.message_laws.proofs.StandingCalls.SoundRows.{after_dialogs, known_dialogs, known_leg, known_target, new_dialogs}
use Rattle.message_laws.proofs.sound.dialogs_are_kept_sound.Goals as goal

pub returns-clause-begins : goal.returns-clause-begins
returns-clause-begins c = new_dialogs

pub returns-clause-step : goal.returns-clause-step
returns-clause-step c = after_dialogs (record { message = message_reads; name = name_reads; callee = c.dialogs_are_sound.ensures.callee; contact = c.contacts_are_read.ensures })

pub returns-clause-bound : goal.returns-clause-bound
returns-clause-bound c = known_target

pub returns-clause-leg : goal.returns-clause-leg
returns-clause-leg c = known_leg (record { message = message_reads; name = name_reads; callee = c.dialogs_are_sound.ensures.callee; contact = c.contacts_are_read.ensures })

pub returns-clause-known : goal.returns-clause-known
returns-clause-known c = known_dialogs (record { message = message_reads; name = name_reads; callee = c.dialogs_are_sound.ensures.callee; contact = c.contacts_are_read.ensures })
