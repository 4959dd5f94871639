use Rattle.message_laws.proofs.Messages.ReadMessages.{message_reads, name_reads}
use Rattle.media_laws.proofs.LateResponses.AckMoves.{ack_move}
use Rattle.media_laws.proofs.Copies.EventMoves.{again_is_quiet, silent_is_quiet}
use Rattle.media_laws.proofs.LateResponses.ForkMoves.{fork_move}
use Rattle.media_laws.proofs.late.passed_responses_move_none.Goals as goal

pub returns-clause-silent : goal.returns-clause-silent
returns-clause-silent c =
    silent_is_quiet (record { same = c.bytes_say_all.ensures.one; bytes = c.bytes_say_all.ensures.bytes; back = c.written_is_read.ensures })
    (record { message = message_reads; name = name_reads; callee = c.dialogs_are_sound.ensures.callee; contact = c.contacts_are_read.ensures })

pub returns-clause-again : goal.returns-clause-again
returns-clause-again c =
    again_is_quiet (record { same = c.bytes_say_all.ensures.one; bytes = c.bytes_say_all.ensures.bytes; back = c.written_is_read.ensures })
    (record { message = message_reads; name = name_reads; callee = c.dialogs_are_sound.ensures.callee; contact = c.contacts_are_read.ensures })

pub returns-clause-fork : goal.returns-clause-fork
returns-clause-fork c =
    fork_move (record { same = c.bytes_say_all.ensures.one; bytes = c.bytes_say_all.ensures.bytes; back = c.written_is_read.ensures })
    (record { message = message_reads; name = name_reads; callee = c.dialogs_are_sound.ensures.callee; contact = c.contacts_are_read.ensures }) c.bodies_describe.ensures

pub returns-clause-ack_alone : goal.returns-clause-ack_alone
returns-clause-ack_alone c =
    ack_move (record { same = c.bytes_say_all.ensures.one; bytes = c.bytes_say_all.ensures.bytes; back = c.written_is_read.ensures })
    (record { message = message_reads; name = name_reads; callee = c.dialogs_are_sound.ensures.callee; contact = c.contacts_are_read.ensures }) c.bodies_describe.ensures
