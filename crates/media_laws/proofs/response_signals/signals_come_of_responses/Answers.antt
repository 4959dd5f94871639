use Rattle.sip_message.specs.declared.message.Message.TheVariants as Kinds
use Rattle.message_laws.proofs.Messages.ReadMessages.{message_reads, name_reads}
use Rattle.media_laws.proofs.OfferPairs.FirstAnswers.{success_signals}
use Rattle.media_laws.proofs.OfferPairs.Responses.{refusal_signals, ringing_signals}
use Rattle.media_laws.proofs.response_signals.signals_come_of_responses.Goals as goal

pub returns-clause-ringing : goal.returns-clause-ringing
returns-clause-ringing c = ringing_signals

pub returns-clause-refusal : goal.returns-clause-refusal
returns-clause-refusal c = refusal_signals c.replies.ensures.reply

pub returns-clause-success : goal.returns-clause-success
returns-clause-success c =
    success_signals (
    record {
      reading = record { message = message_reads; name = name_reads; callee = c.dialogs_are_sound.ensures.callee; contact = c.contacts_are_read.ensures };
      names = λ text r read. c.invites_name_a_contact.ensures.answer text r (message_reads text (Kinds.Response r) read);
      replies = c.replies.ensures.reply;
    }
    )
