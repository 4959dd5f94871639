use Rattle.std.proofs.Common.{List, sym, subst, ℕ}
use Rattle.sip_message.specs.Grammar.{ReadsMessage}
use Rattle.message_laws.proofs.Messages.ReadMessages.{message_reads, name_reads}
use Rattle.std.proofs.lemmas.List.Elements.{All-nil}
use Rattle.message_laws.specs.ReadDatagrams.{IsReadDatagram}
use Rattle.message_laws.proofs.SentTexts.ReadEvents.{after_reads}
use Rattle.message_laws.proofs.SentTexts.ReadKnown.{known_reads}
use Rattle.message_laws.proofs.sends.sends_are_read.Goals as goal

pub returns-clause-begins : goal.returns-clause-begins
returns-clause-begins c = All-nil IsReadDatagram

pub returns-clause-step : goal.returns-clause-step
returns-clause-step c =
    after_reads (record {
      reading = record { message = message_reads; name = name_reads; callee = c.dialogs_are_sound.ensures.callee; contact = c.contacts_are_read.ensures };
      describes = c.bodies_describe.ensures;
      sent = c.sent_is_read.ensures;
    })

pub returns-clause-known : goal.returns-clause-known
returns-clause-known c =
    known_reads (record {
      reading = record { message = message_reads; name = name_reads; callee = c.dialogs_are_sound.ensures.callee; contact = c.contacts_are_read.ensures };
      describes = c.bodies_describe.ensures;
      sent = c.sent_is_read.ensures;
    })

pub returns-clause-back : goal.returns-clause-back
returns-clause-back c = λ bytes h. subst (λ (text : List ℕ). ReadsMessage text h.0) (sym h.1) (c.written_is_read.ensures h.0 h.2)
