use Rattle.sip_message.specs.declared.message.Message.TheVariants as Kinds
use Rattle.message_laws.proofs.Messages.ReadMessages.{message_reads, name_reads}
use Rattle.step_laws.proofs.AnswerSends.{first_answers, inside_answers, update_answers}
use Rattle.step_laws.proofs.answers.fit_answers_go_back.Goals as goal

pub returns-clause-first : goal.returns-clause-first
returns-clause-first c =
    first_answers (record { same = c.bytes_say_all.ensures.one; bytes = c.bytes_say_all.ensures.bytes; back = c.written_is_read.ensures })
    (
    record {
      reading = record { message = message_reads; name = name_reads; callee = c.dialogs_are_sound.ensures.callee; contact = c.contacts_are_read.ensures };
      names = λ text r read. c.invites_name_a_contact.ensures.answer text r (message_reads text (Kinds.Response r) read);
      replies = c.replies.ensures.reply;
    }
    ) c.bodies_describe.ensures c.sent_is_read.ensures

pub returns-clause-inside : goal.returns-clause-inside
returns-clause-inside c =
    inside_answers (record { same = c.bytes_say_all.ensures.one; bytes = c.bytes_say_all.ensures.bytes; back = c.written_is_read.ensures })
    (
    record {
      reading = record { message = message_reads; name = name_reads; callee = c.dialogs_are_sound.ensures.callee; contact = c.contacts_are_read.ensures };
      names = λ text r read. c.invites_name_a_contact.ensures.answer text r (message_reads text (Kinds.Response r) read);
      replies = c.replies.ensures.reply;
    }
    ) c.bodies_describe.ensures c.sent_is_read.ensures

pub returns-clause-update : goal.returns-clause-update
returns-clause-update c =
    update_answers (record { same = c.bytes_say_all.ensures.one; bytes = c.bytes_say_all.ensures.bytes; back = c.written_is_read.ensures })
    (
    record {
      reading = record { message = message_reads; name = name_reads; callee = c.dialogs_are_sound.ensures.callee; contact = c.contacts_are_read.ensures };
      names = λ text r read. c.invites_name_a_contact.ensures.answer text r (message_reads text (Kinds.Response r) read);
      replies = c.replies.ensures.reply;
    }
    ) c.bodies_describe.ensures c.sent_is_read.ensures
