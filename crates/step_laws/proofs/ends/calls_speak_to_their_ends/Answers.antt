use Rattle.sip_message.specs.declared.message.Message.TheVariants as Kinds
use Rattle.message_laws.proofs.Messages.ReadMessages.{message_reads, name_reads}
use Rattle.step_laws.proofs.RefusalSpeech.{refusal_speaks}
use Rattle.step_laws.proofs.SpeakingEvents.{ack_speaks, answer_speaks, bye_speaks, cancel_speaks, provisional_speaks, timeout_speaks, timer_speaks}
use Rattle.step_laws.proofs.ends.calls_speak_to_their_ends.Goals as goal

pub returns-clause-bye : goal.returns-clause-bye
returns-clause-bye c = bye_speaks (record { same = c.bytes_say_all.ensures.one; bytes = c.bytes_say_all.ensures.bytes; back = c.written_is_read.ensures }) c.bodies_describe.ensures c.sent_is_read.ensures

pub returns-clause-cancel : goal.returns-clause-cancel
returns-clause-cancel c = cancel_speaks (record { same = c.bytes_say_all.ensures.one; bytes = c.bytes_say_all.ensures.bytes; back = c.written_is_read.ensures }) c.bodies_describe.ensures c.sent_is_read.ensures

pub returns-clause-provisional : goal.returns-clause-provisional
returns-clause-provisional c = provisional_speaks (record { same = c.bytes_say_all.ensures.one; bytes = c.bytes_say_all.ensures.bytes; back = c.written_is_read.ensures }) c.bodies_describe.ensures c.sent_is_read.ensures

pub returns-clause-timer : goal.returns-clause-timer
returns-clause-timer c = timer_speaks (record { same = c.bytes_say_all.ensures.one; bytes = c.bytes_say_all.ensures.bytes; back = c.written_is_read.ensures }) c.bodies_describe.ensures c.sent_is_read.ensures

pub returns-clause-timeout : goal.returns-clause-timeout
returns-clause-timeout c = timeout_speaks (record { same = c.bytes_say_all.ensures.one; bytes = c.bytes_say_all.ensures.bytes; back = c.written_is_read.ensures }) c.bodies_describe.ensures c.sent_is_read.ensures

pub returns-clause-answer : goal.returns-clause-answer
returns-clause-answer c =
    answer_speaks (record { same = c.bytes_say_all.ensures.one; bytes = c.bytes_say_all.ensures.bytes; back = c.written_is_read.ensures })
    (
    record {
      reading = record { message = message_reads; name = name_reads; callee = c.dialogs_are_sound.ensures.callee; contact = c.contacts_are_read.ensures };
      names = λ text r read. c.invites_name_a_contact.ensures.answer text r (message_reads text (Kinds.Response r) read);
      replies = c.replies.ensures.reply;
    }
    ) c.bodies_describe.ensures c.sent_is_read.ensures

pub returns-clause-ack : goal.returns-clause-ack
returns-clause-ack c = ack_speaks (record { same = c.bytes_say_all.ensures.one; bytes = c.bytes_say_all.ensures.bytes; back = c.written_is_read.ensures }) c.bodies_describe.ensures c.sent_is_read.ensures

pub returns-clause-refusal : goal.returns-clause-refusal
returns-clause-refusal c =
    refusal_speaks (record { same = c.bytes_say_all.ensures.one; bytes = c.bytes_say_all.ensures.bytes; back = c.written_is_read.ensures })
    (record { message = message_reads; name = name_reads; callee = c.dialogs_are_sound.ensures.callee; contact = c.contacts_are_read.ensures })
    c.bodies_describe.ensures c.sent_is_read.ensures
