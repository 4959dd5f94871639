use Rattle.message_laws.proofs.Messages.ReadMessages.{message_reads, name_reads}
use Rattle.step_laws.proofs.RefusalSpeech.{provisional, refusal, success}
use Rattle.step_laws.proofs.refusals.unclaimed_responses_get_an_ack_at_most.Goals as goal

pub returns-clause-refusal : goal.returns-clause-refusal
returns-clause-refusal c =
    refusal (record { same = c.bytes_say_all.ensures.one; bytes = c.bytes_say_all.ensures.bytes; back = c.written_is_read.ensures })
    (record { message = message_reads; name = name_reads; callee = c.dialogs_are_sound.ensures.callee; contact = c.contacts_are_read.ensures })
    c.bodies_describe.ensures c.sent_is_read.ensures

pub returns-clause-success : goal.returns-clause-success
returns-clause-success c =
    success (record { same = c.bytes_say_all.ensures.one; bytes = c.bytes_say_all.ensures.bytes; back = c.written_is_read.ensures })
    (record { message = message_reads; name = name_reads; callee = c.dialogs_are_sound.ensures.callee; contact = c.contacts_are_read.ensures })
    c.bodies_describe.ensures c.sent_is_read.ensures

pub returns-clause-provisional : goal.returns-clause-provisional
returns-clause-provisional c =
    provisional (record { same = c.bytes_say_all.ensures.one; bytes = c.bytes_say_all.ensures.bytes; back = c.written_is_read.ensures })
    (record { message = message_reads; name = name_reads; callee = c.dialogs_are_sound.ensures.callee; contact = c.contacts_are_read.ensures })
    c.bodies_describe.ensures c.sent_is_read.ensures
