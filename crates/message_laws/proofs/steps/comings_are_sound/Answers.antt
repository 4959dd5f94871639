use Rattle.message_laws.proofs.Messages.ReadMessages.{message_reads, name_reads}
use Rattle.message_laws.proofs.Traces.Comings.{alone_comes, answer_comes, bye_comes, cancel_comes, forked_can, later_can, offer_comes}
use Rattle.message_laws.proofs.steps.comings_are_sound.Goals as goal

pub returns-clause-alone : goal.returns-clause-alone
returns-clause-alone c = alone_comes

pub returns-clause-cancel : goal.returns-clause-cancel
returns-clause-cancel c = cancel_comes

pub returns-clause-bye : goal.returns-clause-bye
returns-clause-bye c = bye_comes

pub returns-clause-offer : goal.returns-clause-offer
returns-clause-offer c =
    offer_comes c.bodies_describe.ensures (record { message = message_reads; name = name_reads; callee = c.dialogs_are_sound.ensures.callee; contact = c.contacts_are_read.ensures })

pub returns-clause-answer : goal.returns-clause-answer
returns-clause-answer c =
    answer_comes c.bodies_describe.ensures (record { message = message_reads; name = name_reads; callee = c.dialogs_are_sound.ensures.callee; contact = c.contacts_are_read.ensures })

pub returns-clause-fork : goal.returns-clause-fork
returns-clause-fork c = forked_can (record { message = message_reads; name = name_reads; callee = c.dialogs_are_sound.ensures.callee; contact = c.contacts_are_read.ensures })

pub returns-clause-late : goal.returns-clause-late
returns-clause-late c = later_can (record { message = message_reads; name = name_reads; callee = c.dialogs_are_sound.ensures.callee; contact = c.contacts_are_read.ensures })
