use Rattle.message_laws.proofs.Messages.ReadMessages.{message_reads, name_reads}
use Rattle.step_laws.proofs.FirstInvites.{first_invites}
use Rattle.step_laws.proofs.offers.first_invites_are_passed_on.Goals as goal

pub returns : goal.returns
returns c =
    first_invites (record { same = c.bytes_say_all.ensures.one; bytes = c.bytes_say_all.ensures.bytes; back = c.written_is_read.ensures })
    (record { message = message_reads; name = name_reads; callee = c.dialogs_are_sound.ensures.callee; contact = c.contacts_are_read.ensures }) c.bodies_describe.ensures c.sent_is_read.ensures c.invites_name_a_contact.ensures.request c.calls_are_served.ensures.step
