use Rattle.message_laws.proofs.Messages.ReadMessages.{message_reads, name_reads}
use Rattle.media_laws.proofs.EndTags.ByesKnown.{byes_after, new_byes, next_tag}
use Rattle.media_laws.proofs.byes.byes_are_known.Goals as goal

pub returns-clause-begins : goal.returns-clause-begins
returns-clause-begins c = new_byes

pub returns-clause-step : goal.returns-clause-step
returns-clause-step c = λ s event begun sent t ds k taken ms ties asked from are known.
    byes_after (record {
      reads = record { same = c.bytes_say_all.ensures.one; bytes = c.bytes_say_all.ensures.bytes; back = c.written_is_read.ensures };
      names = record { message = message_reads; name = name_reads; callee = c.dialogs_are_sound.ensures.callee; contact = c.contacts_are_read.ensures };
      describes = c.bodies_describe.ensures;
      sent = c.sent_is_read.ensures;
    }) s event begun sent t ds k taken ms ties asked from are known

pub returns-clause-next : goal.returns-clause-next
returns-clause-next c = next_tag
