use Rattle.call_trace.specs.Messages.{offering}
use Rattle.sip_message.specs.declared.message.Message.TheVariants as Kinds
use Rattle.message_laws.proofs.Messages.ReadMessages.{message_reads, name_reads}
use Rattle.media_laws.proofs.EventKinds.Events.{event_goes}
use Rattle.media_laws.proofs.event_moves.events_are_moves.Goals as goal

pub returns : goal.returns
returns c = λ s event begun sent t old k tied later askers from taken ms h.
    event_goes (record {
      reads = record { same = c.bytes_say_all.ensures.one; bytes = c.bytes_say_all.ensures.bytes; back = c.written_is_read.ensures };
      names = record { message = message_reads; name = name_reads; callee = c.dialogs_are_sound.ensures.callee; contact = c.contacts_are_read.ensures };
      contact = λ text r read. c.invites_name_a_contact.ensures.answer text r (message_reads text (Kinds.Response r) read);
      one = c.invites_name_a_contact.ensures.request;
      replies = c.replies.ensures.reply;
      describes = c.bodies_describe.ensures;
      sent = c.sent_is_read.ensures;
      keep = λ n x calls new came said m h. (c.moves_keep.ensures.one offering n x calls new came said m h).sessions.apart;
    }) s event begun sent t old k tied later askers from taken ms h
