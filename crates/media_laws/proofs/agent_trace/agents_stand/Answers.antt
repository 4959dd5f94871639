use Rattle.call_trace.specs.Messages.{offering}
use Rattle.sip_message.specs.declared.message.Message.TheVariants as Kinds
use Rattle.message_laws.proofs.Messages.ReadMessages.{message_reads, name_reads}
use Rattle.media_laws.specs.Keeping.{dialog_with_caller}
use Rattle.media_laws.proofs.EntryTraces.Traces.{trace_of}
use Rattle.media_laws.proofs.WholePromise.Keeping.{answers_on, runs_through, standing_exact, standing_holds, standing_live, standing_promised, standing_relays, stands_new, stands_on, stands_through}
use Rattle.media_laws.proofs.WholePromise.SaidMessages.{says_messages}
use Rattle.media_laws.proofs.agent_trace.agents_stand.Goals as goal

pub returns-clause-begins : goal.returns-clause-begins
returns-clause-begins c =
    stands_new (
    record {
      texts = record {
        reading = record { message = message_reads; name = name_reads; callee = c.dialogs_are_sound.ensures.callee; contact = c.contacts_are_read.ensures };
        describes = c.bodies_describe.ensures;
        written = c.written_is_read.ensures;
        replies = c.replies.ensures.reply;
      };
      names = λ text r read. c.invites_name_a_contact.ensures.answer text r (message_reads text (Kinds.Response r) read);
      serves_new = c.calls_are_served.ensures.begins;
      serves = c.calls_are_served.ensures.step;
      staged = c.served_as_told.ensures.staged;
      byes_new = c.byes_are_known.ensures.begins;
      byes = c.byes_are_known.ensures.step;
      reads = c.sends_are_read.ensures.step;
      back = c.sends_are_read.ensures.back;
      none_stand = c.moves_keep.ensures.none offering c.moves_keep.ensures.offering;
      moved = c.moves_keep.ensures.one offering;
    }
    )

pub returns-clause-event : goal.returns-clause-event
returns-clause-event c =
    stands_on (
    record {
      texts = record {
        reading = record { message = message_reads; name = name_reads; callee = c.dialogs_are_sound.ensures.callee; contact = c.contacts_are_read.ensures };
        describes = c.bodies_describe.ensures;
        written = c.written_is_read.ensures;
        replies = c.replies.ensures.reply;
      };
      names = λ text r read. c.invites_name_a_contact.ensures.answer text r (message_reads text (Kinds.Response r) read);
      serves_new = c.calls_are_served.ensures.begins;
      serves = c.calls_are_served.ensures.step;
      staged = c.served_as_told.ensures.staged;
      byes_new = c.byes_are_known.ensures.begins;
      byes = c.byes_are_known.ensures.step;
      reads = c.sends_are_read.ensures.step;
      back = c.sends_are_read.ensures.back;
      none_stand = c.moves_keep.ensures.none offering c.moves_keep.ensures.offering;
      moved = c.moves_keep.ensures.one offering;
    }
    ) c.events_are_moves.ensures

pub returns-clause-answers : goal.returns-clause-answers
returns-clause-answers c =
    answers_on (
    record {
      texts = record {
        reading = record { message = message_reads; name = name_reads; callee = c.dialogs_are_sound.ensures.callee; contact = c.contacts_are_read.ensures };
        describes = c.bodies_describe.ensures;
        written = c.written_is_read.ensures;
        replies = c.replies.ensures.reply;
      };
      names = λ text r read. c.invites_name_a_contact.ensures.answer text r (message_reads text (Kinds.Response r) read);
      serves_new = c.calls_are_served.ensures.begins;
      serves = c.calls_are_served.ensures.step;
      staged = c.served_as_told.ensures.staged;
      byes_new = c.byes_are_known.ensures.begins;
      byes = c.byes_are_known.ensures.step;
      reads = c.sends_are_read.ensures.step;
      back = c.sends_are_read.ensures.back;
      none_stand = c.moves_keep.ensures.none offering c.moves_keep.ensures.offering;
      moved = c.moves_keep.ensures.one offering;
    }
    ) c.events_are_moves.ensures

pub returns-clause-said : goal.returns-clause-said
returns-clause-said c =
    says_messages (
    record {
      texts = record {
        reading = record { message = message_reads; name = name_reads; callee = c.dialogs_are_sound.ensures.callee; contact = c.contacts_are_read.ensures };
        describes = c.bodies_describe.ensures;
        written = c.written_is_read.ensures;
        replies = c.replies.ensures.reply;
      };
      names = λ text r read. c.invites_name_a_contact.ensures.answer text r (message_reads text (Kinds.Response r) read);
      serves_new = c.calls_are_served.ensures.begins;
      serves = c.calls_are_served.ensures.step;
      staged = c.served_as_told.ensures.staged;
      byes_new = c.byes_are_known.ensures.begins;
      byes = c.byes_are_known.ensures.step;
      reads = c.sends_are_read.ensures.step;
      back = c.sends_are_read.ensures.back;
      none_stand = c.moves_keep.ensures.none offering c.moves_keep.ensures.offering;
      moved = c.moves_keep.ensures.one offering;
    }
    )

pub returns-clause-entries : goal.returns-clause-entries
returns-clause-entries c =
    stands_through (
    record {
      texts = record {
        reading = record { message = message_reads; name = name_reads; callee = c.dialogs_are_sound.ensures.callee; contact = c.contacts_are_read.ensures };
        describes = c.bodies_describe.ensures;
        written = c.written_is_read.ensures;
        replies = c.replies.ensures.reply;
      };
      names = λ text r read. c.invites_name_a_contact.ensures.answer text r (message_reads text (Kinds.Response r) read);
      serves_new = c.calls_are_served.ensures.begins;
      serves = c.calls_are_served.ensures.step;
      staged = c.served_as_told.ensures.staged;
      byes_new = c.byes_are_known.ensures.begins;
      byes = c.byes_are_known.ensures.step;
      reads = c.sends_are_read.ensures.step;
      back = c.sends_are_read.ensures.back;
      none_stand = c.moves_keep.ensures.none offering c.moves_keep.ensures.offering;
      moved = c.moves_keep.ensures.one offering;
    }
    ) c.events_are_moves.ensures

pub returns-clause-traced : goal.returns-clause-traced
returns-clause-traced c =
    trace_of (
    record {
      texts = record {
        reading = record { message = message_reads; name = name_reads; callee = c.dialogs_are_sound.ensures.callee; contact = c.contacts_are_read.ensures };
        describes = c.bodies_describe.ensures;
        written = c.written_is_read.ensures;
        replies = c.replies.ensures.reply;
      };
      names = λ text r read. c.invites_name_a_contact.ensures.answer text r (message_reads text (Kinds.Response r) read);
      serves_new = c.calls_are_served.ensures.begins;
      serves = c.calls_are_served.ensures.step;
      staged = c.served_as_told.ensures.staged;
      byes_new = c.byes_are_known.ensures.begins;
      byes = c.byes_are_known.ensures.step;
      reads = c.sends_are_read.ensures.step;
      back = c.sends_are_read.ensures.back;
      none_stand = c.moves_keep.ensures.none offering c.moves_keep.ensures.offering;
      moved = c.moves_keep.ensures.one offering;
    }
    ) c.events_are_moves.ensures

pub returns-clause-runs : goal.returns-clause-runs
returns-clause-runs c =
    runs_through (
    record {
      texts = record {
        reading = record { message = message_reads; name = name_reads; callee = c.dialogs_are_sound.ensures.callee; contact = c.contacts_are_read.ensures };
        describes = c.bodies_describe.ensures;
        written = c.written_is_read.ensures;
        replies = c.replies.ensures.reply;
      };
      names = λ text r read. c.invites_name_a_contact.ensures.answer text r (message_reads text (Kinds.Response r) read);
      serves_new = c.calls_are_served.ensures.begins;
      serves = c.calls_are_served.ensures.step;
      staged = c.served_as_told.ensures.staged;
      byes_new = c.byes_are_known.ensures.begins;
      byes = c.byes_are_known.ensures.step;
      reads = c.sends_are_read.ensures.step;
      back = c.sends_are_read.ensures.back;
      none_stand = c.moves_keep.ensures.none offering c.moves_keep.ensures.offering;
      moved = c.moves_keep.ensures.one offering;
    }
    ) c.events_are_moves.ensures

pub returns-clause-promised : goal.returns-clause-promised
returns-clause-promised c =
    standing_promised (
    record {
      texts = record {
        reading = record { message = message_reads; name = name_reads; callee = c.dialogs_are_sound.ensures.callee; contact = c.contacts_are_read.ensures };
        describes = c.bodies_describe.ensures;
        written = c.written_is_read.ensures;
        replies = c.replies.ensures.reply;
      };
      names = λ text r read. c.invites_name_a_contact.ensures.answer text r (message_reads text (Kinds.Response r) read);
      serves_new = c.calls_are_served.ensures.begins;
      serves = c.calls_are_served.ensures.step;
      staged = c.served_as_told.ensures.staged;
      byes_new = c.byes_are_known.ensures.begins;
      byes = c.byes_are_known.ensures.step;
      reads = c.sends_are_read.ensures.step;
      back = c.sends_are_read.ensures.back;
      none_stand = c.moves_keep.ensures.none offering c.moves_keep.ensures.offering;
      moved = c.moves_keep.ensures.one offering;
    }
    ) (record { served = c.traced_calls_are_served.ensures dialog_with_caller; promised = c.standing_is_promised.ensures.promised offering })

pub returns-clause-lives : goal.returns-clause-lives
returns-clause-lives c =
    standing_live (
    record {
      texts = record {
        reading = record { message = message_reads; name = name_reads; callee = c.dialogs_are_sound.ensures.callee; contact = c.contacts_are_read.ensures };
        describes = c.bodies_describe.ensures;
        written = c.written_is_read.ensures;
        replies = c.replies.ensures.reply;
      };
      names = λ text r read. c.invites_name_a_contact.ensures.answer text r (message_reads text (Kinds.Response r) read);
      serves_new = c.calls_are_served.ensures.begins;
      serves = c.calls_are_served.ensures.step;
      staged = c.served_as_told.ensures.staged;
      byes_new = c.byes_are_known.ensures.begins;
      byes = c.byes_are_known.ensures.step;
      reads = c.sends_are_read.ensures.step;
      back = c.sends_are_read.ensures.back;
      none_stand = c.moves_keep.ensures.none offering c.moves_keep.ensures.offering;
      moved = c.moves_keep.ensures.one offering;
    }
    ) (record { served = c.traced_calls_are_served.ensures dialog_with_caller; promised = c.standing_is_promised.ensures.promised offering })

pub returns-clause-relays : goal.returns-clause-relays
returns-clause-relays c =
    standing_relays (
    record {
      texts = record {
        reading = record { message = message_reads; name = name_reads; callee = c.dialogs_are_sound.ensures.callee; contact = c.contacts_are_read.ensures };
        describes = c.bodies_describe.ensures;
        written = c.written_is_read.ensures;
        replies = c.replies.ensures.reply;
      };
      names = λ text r read. c.invites_name_a_contact.ensures.answer text r (message_reads text (Kinds.Response r) read);
      serves_new = c.calls_are_served.ensures.begins;
      serves = c.calls_are_served.ensures.step;
      staged = c.served_as_told.ensures.staged;
      byes_new = c.byes_are_known.ensures.begins;
      byes = c.byes_are_known.ensures.step;
      reads = c.sends_are_read.ensures.step;
      back = c.sends_are_read.ensures.back;
      none_stand = c.moves_keep.ensures.none offering c.moves_keep.ensures.offering;
      moved = c.moves_keep.ensures.one offering;
    }
    ) (record { served = c.traced_calls_are_served.ensures dialog_with_caller; promised = c.standing_is_promised.ensures.promised offering })

pub returns-clause-holds : goal.returns-clause-holds
returns-clause-holds c =
    standing_holds (
    record {
      texts = record {
        reading = record { message = message_reads; name = name_reads; callee = c.dialogs_are_sound.ensures.callee; contact = c.contacts_are_read.ensures };
        describes = c.bodies_describe.ensures;
        written = c.written_is_read.ensures;
        replies = c.replies.ensures.reply;
      };
      names = λ text r read. c.invites_name_a_contact.ensures.answer text r (message_reads text (Kinds.Response r) read);
      serves_new = c.calls_are_served.ensures.begins;
      serves = c.calls_are_served.ensures.step;
      staged = c.served_as_told.ensures.staged;
      byes_new = c.byes_are_known.ensures.begins;
      byes = c.byes_are_known.ensures.step;
      reads = c.sends_are_read.ensures.step;
      back = c.sends_are_read.ensures.back;
      none_stand = c.moves_keep.ensures.none offering c.moves_keep.ensures.offering;
      moved = c.moves_keep.ensures.one offering;
    }
    ) (record { served = c.traced_calls_are_served.ensures dialog_with_caller; promised = c.standing_is_promised.ensures.promised offering }) c.served_as_told.ensures.holders c.served_as_told.ensures.exact

pub returns-clause-exact : goal.returns-clause-exact
returns-clause-exact c = standing_exact c.served_as_told.ensures.exact
