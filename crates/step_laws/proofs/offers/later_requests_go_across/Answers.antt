use Rattle.message_laws.proofs.Messages.ReadMessages.{message_reads, name_reads}
use Rattle.step_laws.proofs.LaterRequests.{directed_requests}
use Rattle.step_laws.proofs.offers.later_requests_go_across.Goals as goal

pub returns : goal.returns
returns c =
    directed_requests (record { same = c.bytes_say_all.ensures.one; bytes = c.bytes_say_all.ensures.bytes; back = c.written_is_read.ensures })
    (record { message = message_reads; name = name_reads; callee = c.dialogs_are_sound.ensures.callee; contact = c.contacts_are_read.ensures }) c.bodies_describe.ensures c.sent_is_read.ensures c.calls_are_served.ensures.step
