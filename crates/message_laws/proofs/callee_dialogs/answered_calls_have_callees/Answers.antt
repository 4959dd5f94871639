use Rattle.sip_message.specs.declared.message.Message.TheVariants as Kinds
use Rattle.message_laws.proofs.StandingCalls.CalleeRows.{after_callees, known_callees, new_callees}
use Rattle.message_laws.proofs.Messages.ReadMessages.{message_reads}
use Rattle.message_laws.proofs.callee_dialogs.answered_calls_have_callees.Goals as goal

pub returns-clause-begins : goal.returns-clause-begins
returns-clause-begins c = new_callees

pub returns-clause-step : goal.returns-clause-step
returns-clause-step c = after_callees (λ text r read. c.invites_name_a_contact.ensures.answer text r (message_reads text (Kinds.Response r) read))

pub returns-clause-known : goal.returns-clause-known
returns-clause-known c = known_callees (λ text r read. c.invites_name_a_contact.ensures.answer text r (message_reads text (Kinds.Response r) read))
