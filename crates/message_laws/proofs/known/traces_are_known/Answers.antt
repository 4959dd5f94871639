use Rattle.message_laws.proofs.Messages.ReadMessages.{message_reads, name_reads}
use Rattle.message_laws.proofs.AwaitedOffers.KnownTraces.{after_trace, entry_trace, new_trace}
use Rattle.message_laws.proofs.AwaitedOffers.ManyEntries.{known_trace}
use Rattle.message_laws.proofs.known.traces_are_known.Goals as goal

pub returns-clause-begins : goal.returns-clause-begins
returns-clause-begins c = new_trace

pub returns-clause-step : goal.returns-clause-step
returns-clause-step c = λ s event n begun sent t taken messages tokens was askers dialogs media values shows k.
    after_trace (
    record {
      reading = record { message = message_reads; name = name_reads; callee = c.dialogs_are_sound.ensures.callee; contact = c.contacts_are_read.ensures };
      describes = c.bodies_describe.ensures;
      written = c.written_is_read.ensures;
      replies = c.replies.ensures.reply;
    }
    ) s event n begun sent t taken messages (record { tokens = tokens; was = was; askers = askers; dialogs = dialogs; media = media; values = values }) shows k

pub returns-clause-entry : goal.returns-clause-entry
returns-clause-entry c = λ s x n begun sent t taken messages tokens was askers dialogs media values is shown k.
    entry_trace (
    record {
      reading = record { message = message_reads; name = name_reads; callee = c.dialogs_are_sound.ensures.callee; contact = c.contacts_are_read.ensures };
      describes = c.bodies_describe.ensures;
      written = c.written_is_read.ensures;
      replies = c.replies.ensures.reply;
    }
    ) s x n begun sent t taken messages (record { tokens = tokens; was = was; askers = askers; dialogs = dialogs; media = media; values = values }) is shown k

pub returns-clause-known : goal.returns-clause-known
returns-clause-known c =
    known_trace (
    record {
      reading = record { message = message_reads; name = name_reads; callee = c.dialogs_are_sound.ensures.callee; contact = c.contacts_are_read.ensures };
      describes = c.bodies_describe.ensures;
      written = c.written_is_read.ensures;
      replies = c.replies.ensures.reply;
    }
    )
