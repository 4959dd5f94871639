use Rattle.sip_message.specs.declared.message.Message.TheVariants as Kinds
use Rattle.call_trace.specs.Messages.{offering}
use Rattle.message_laws.proofs.Messages.ReadMessages.{message_reads, name_reads}
use Rattle.media_laws.proofs.EndTags.ResponseSteps.{refusal_goes_on, ringing_goes_on, unfit_goes_on}
use Rattle.media_laws.proofs.responses_on.responses_go_on.Goals as goal

pub returns-clause-ringing : goal.returns-clause-ringing
returns-clause-ringing c = λ s after begun more sent t old k before later tied knows e place c' n entries there stands listed bytes r taken read took class.
    ringing_goes_on (record { same = c.bytes_say_all.ensures.one; bytes = c.bytes_say_all.ensures.bytes; back = c.written_is_read.ensures }) (record { message = message_reads; name = name_reads; callee = c.dialogs_are_sound.ensures.callee; contact = c.contacts_are_read.ensures }) c.bodies_describe.ensures c.sent_is_read.ensures
    (λ k t old new taken sent m h. (c.moves_keep.ensures.one offering k t old new taken sent m h).sessions.apart) s after begun more sent t old k before later tied knows e place c' n entries there stands listed bytes r taken read took class

pub returns-clause-refusal : goal.returns-clause-refusal
returns-clause-refusal c = λ s after begun more sent t old k before later tied knows e place c' n entries there stands listed bytes r taken read took id y to class.
    refusal_goes_on (record { same = c.bytes_say_all.ensures.one; bytes = c.bytes_say_all.ensures.bytes; back = c.written_is_read.ensures }) (record { message = message_reads; name = name_reads; callee = c.dialogs_are_sound.ensures.callee; contact = c.contacts_are_read.ensures }) c.bodies_describe.ensures c.sent_is_read.ensures
    (λ k t old new taken sent m h. (c.moves_keep.ensures.one offering k t old new taken sent m h).sessions.apart) s after begun more sent t old k before later tied knows e place c' n entries there stands listed bytes r taken read took c.replies.ensures.reply id y to class

pub returns-clause-unfit : goal.returns-clause-unfit
returns-clause-unfit c = λ s after begun more sent t old k before later tied knows e place c' n entries there stands listed bytes r taken read took id y to reached class unfit.
    unfit_goes_on (record { same = c.bytes_say_all.ensures.one; bytes = c.bytes_say_all.ensures.bytes; back = c.written_is_read.ensures }) (record { message = message_reads; name = name_reads; callee = c.dialogs_are_sound.ensures.callee; contact = c.contacts_are_read.ensures }) c.bodies_describe.ensures c.sent_is_read.ensures
    (λ k t old new taken sent m h. (c.moves_keep.ensures.one offering k t old new taken sent m h).sessions.apart) s after begun more sent t old k before later tied knows e place c' n entries there stands listed bytes r taken read took (
    record {
      reading = record { message = message_reads; name = name_reads; callee = c.dialogs_are_sound.ensures.callee; contact = c.contacts_are_read.ensures };
      names = λ text r read. c.invites_name_a_contact.ensures.answer text r (message_reads text (Kinds.Response r) read);
      replies = c.replies.ensures.reply;
    }
    ) tied.waiting id y to reached class unfit
