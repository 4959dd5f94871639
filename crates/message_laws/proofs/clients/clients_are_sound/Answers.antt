use Rattle.message_laws.proofs.Messages.ReadMessages.{message_reads, name_reads}
use Rattle.message_laws.proofs.StandingCalls.ClientRows.{after_clients, known_clients, new_clients}
use Rattle.message_laws.proofs.StandingCalls.ClientSlots.{client_at}
use Rattle.message_laws.proofs.clients.clients_are_sound.Goals as goal

pub returns-clause-begins : goal.returns-clause-begins
returns-clause-begins c = new_clients

pub returns-clause-step : goal.returns-clause-step
returns-clause-step c = after_clients (record { message = message_reads; name = name_reads; callee = c.dialogs_are_sound.ensures.callee; contact = c.contacts_are_read.ensures })

pub returns-clause-known : goal.returns-clause-known
returns-clause-known c = known_clients (record { message = message_reads; name = name_reads; callee = c.dialogs_are_sound.ensures.callee; contact = c.contacts_are_read.ensures })

pub returns-clause-request : goal.returns-clause-request
returns-clause-request c = λ s id t k there client. client_at s.table.slots id t k.slots there client
