use Rattle.sip_message.specs.declared.message.Message.TheVariants as Kinds
use Rattle.message_laws.proofs.StandingCalls.Asking.{all_asked, all_offered, known_asked}
use Rattle.message_laws.proofs.StandingCalls.OpenRows.{after_requests, known_requests, new_requests}
use Rattle.message_laws.proofs.Messages.ReadMessages.{message_reads, name_reads}
use Rattle.message_laws.proofs.open_requests.open_offers_have_requests.Goals as goal

pub returns-clause-begins : goal.returns-clause-begins
returns-clause-begins c = new_requests

pub returns-clause-step : goal.returns-clause-step
returns-clause-step c = after_requests

pub returns-clause-known : goal.returns-clause-known
returns-clause-known c =
    known_requests (record { message = message_reads; name = name_reads; callee = c.dialogs_are_sound.ensures.callee; contact = c.contacts_are_read.ensures })

pub returns-clause-waits : goal.returns-clause-waits
returns-clause-waits c = all_asked

pub returns-clause-asked : goal.returns-clause-asked
returns-clause-asked c =
    known_asked (record { message = message_reads; name = name_reads; callee = c.dialogs_are_sound.ensures.callee; contact = c.contacts_are_read.ensures })
    (λ text r read. c.invites_name_a_contact.ensures.answer text r (message_reads text (Kinds.Response r) read))

pub returns-clause-carries : goal.returns-clause-carries
returns-clause-carries c = all_offered
