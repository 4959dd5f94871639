use Rattle.message_laws.proofs.Messages.ReadMessages.{message_reads, name_reads}
use Rattle.message_laws.proofs.AwaitedOffers.AskedRows.{after_asked, new_asked}
use Rattle.message_laws.proofs.AwaitedOffers.ManyEntries.{known_asked}
use Rattle.message_laws.proofs.open_offers.open_offers_were_asked.Goals as goal

pub returns-clause-begins : goal.returns-clause-begins
returns-clause-begins c = new_asked

pub returns-clause-step : goal.returns-clause-step
returns-clause-step c = after_asked

pub returns-clause-known : goal.returns-clause-known
returns-clause-known c =
    known_asked (
    record {
      reading = record { message = message_reads; name = name_reads; callee = c.dialogs_are_sound.ensures.callee; contact = c.contacts_are_read.ensures };
      describes = c.bodies_describe.ensures;
      written = c.written_is_read.ensures;
      replies = c.replies.ensures.reply;
    }
    )
