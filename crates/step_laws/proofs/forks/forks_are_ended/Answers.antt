use Rattle.sip_message.specs.declared.message.Message.TheVariants as Kinds
use Rattle.message_laws.proofs.Messages.ReadMessages.{message_reads, name_reads}
use Rattle.step_laws.proofs.ForkEvents.{fork_ends, late_ends}
use Rattle.step_laws.proofs.GivenUp.{given_up}
use Rattle.step_laws.proofs.forks.forks_are_ended.Goals as goal

pub returns-clause-fork : goal.returns-clause-fork
returns-clause-fork c =
    fork_ends (record { same = c.bytes_say_all.ensures.one; bytes = c.bytes_say_all.ensures.bytes; back = c.written_is_read.ensures })
    (record { message = message_reads; name = name_reads; callee = c.dialogs_are_sound.ensures.callee; contact = c.contacts_are_read.ensures }) c.bodies_describe.ensures

pub returns-clause-late : goal.returns-clause-late
returns-clause-late c =
    late_ends (record { same = c.bytes_say_all.ensures.one; bytes = c.bytes_say_all.ensures.bytes; back = c.written_is_read.ensures })
    (record { message = message_reads; name = name_reads; callee = c.dialogs_are_sound.ensures.callee; contact = c.contacts_are_read.ensures }) c.bodies_describe.ensures

pub returns-clause-given_up : goal.returns-clause-given_up
returns-clause-given_up c =
    given_up (record { same = c.bytes_say_all.ensures.one; bytes = c.bytes_say_all.ensures.bytes; back = c.written_is_read.ensures })
    (
    record {
      reading = record { message = message_reads; name = name_reads; callee = c.dialogs_are_sound.ensures.callee; contact = c.contacts_are_read.ensures };
      names = λ text r read. c.invites_name_a_contact.ensures.answer text r (message_reads text (Kinds.Response r) read);
      replies = c.replies.ensures.reply;
    }
    ) c.bodies_describe.ensures c.sent_is_read.ensures
