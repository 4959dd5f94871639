use Rattle.call_trace.specs.Messages.{offering}
use Rattle.sip_message.specs.declared.message.Message.TheVariants as Kinds
use Rattle.message_laws.proofs.Messages.ReadMessages.{message_reads, name_reads}
use Rattle.media_laws.proofs.EndTags.AnswerSteps.{answer_goes_on}
use Rattle.media_laws.proofs.settles_on.answers_go_on.Goals as goal

pub returns : goal.returns
returns c = λ s after begun more sent t old k before later tied knows e place c' n entries there stands listed bytes r taken read took id y to reaches class fit.
    answer_goes_on (record { same = c.bytes_say_all.ensures.one; bytes = c.bytes_say_all.ensures.bytes; back = c.written_is_read.ensures })
    (
    record {
      reading = record { message = message_reads; name = name_reads; callee = c.dialogs_are_sound.ensures.callee; contact = c.contacts_are_read.ensures };
      names = λ text q read_q. c.invites_name_a_contact.ensures.answer text q (message_reads text (Kinds.Response q) read_q);
      replies = c.replies.ensures.reply;
    }
    )
    c.bodies_describe.ensures c.sent_is_read.ensures (λ k t old new taken sent m h. (c.moves_keep.ensures.one offering k t old new taken sent m h).sessions.apart) s after begun more sent t old k before later tied knows e place c' n entries there stands listed bytes r taken
    read took id y to reaches class fit
