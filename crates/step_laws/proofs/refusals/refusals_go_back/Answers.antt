use Rattle.message_laws.proofs.Messages.ReadMessages.{message_reads, name_reads}
use Rattle.step_laws.proofs.RefusalSends.{first, given_up, inside, lost}
use Rattle.step_laws.proofs.refusals.refusals_go_back.Goals as goal

pub returns-clause-first : goal.returns-clause-first
returns-clause-first c =
    first (record { same = c.bytes_say_all.ensures.one; bytes = c.bytes_say_all.ensures.bytes; back = c.written_is_read.ensures })
    (record { message = message_reads; name = name_reads; callee = c.dialogs_are_sound.ensures.callee; contact = c.contacts_are_read.ensures })
    c.bodies_describe.ensures c.sent_is_read.ensures

pub returns-clause-inside : goal.returns-clause-inside
returns-clause-inside c =
    inside (record { same = c.bytes_say_all.ensures.one; bytes = c.bytes_say_all.ensures.bytes; back = c.written_is_read.ensures })
    (record { message = message_reads; name = name_reads; callee = c.dialogs_are_sound.ensures.callee; contact = c.contacts_are_read.ensures })
    c.bodies_describe.ensures c.sent_is_read.ensures

pub returns-clause-lost : goal.returns-clause-lost
returns-clause-lost c =
    lost (record { same = c.bytes_say_all.ensures.one; bytes = c.bytes_say_all.ensures.bytes; back = c.written_is_read.ensures })
    (record { message = message_reads; name = name_reads; callee = c.dialogs_are_sound.ensures.callee; contact = c.contacts_are_read.ensures })
    c.bodies_describe.ensures c.sent_is_read.ensures

pub returns-clause-given_up : goal.returns-clause-given_up
returns-clause-given_up c =
    given_up (record { same = c.bytes_say_all.ensures.one; bytes = c.bytes_say_all.ensures.bytes; back = c.written_is_read.ensures })
    (record { message = message_reads; name = name_reads; callee = c.dialogs_are_sound.ensures.callee; contact = c.contacts_are_read.ensures })
    c.bodies_describe.ensures c.sent_is_read.ensures
