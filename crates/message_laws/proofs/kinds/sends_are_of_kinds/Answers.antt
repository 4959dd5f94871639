use Rattle.message_laws.proofs.Messages.ReadMessages.{message_reads, name_reads}
use Rattle.message_laws.proofs.Traces.SentKinds.{sent_begun, sent_kinds}
use Rattle.message_laws.proofs.kinds.sends_are_of_kinds.Goals as goal

pub returns-clause-kinds : goal.returns-clause-kinds
returns-clause-kinds c =
    sent_kinds (record { message = message_reads; name = name_reads; callee = c.dialogs_are_sound.ensures.callee; contact = c.contacts_are_read.ensures }) c.bodies_describe.ensures

pub returns-clause-begun : goal.returns-clause-begun
returns-clause-begun c =
    sent_begun (record { message = message_reads; name = name_reads; callee = c.dialogs_are_sound.ensures.callee; contact = c.contacts_are_read.ensures }) c.bodies_describe.ensures
