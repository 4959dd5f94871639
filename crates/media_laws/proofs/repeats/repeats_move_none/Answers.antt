use Rattle.message_laws.proofs.Messages.ReadMessages.{message_reads, name_reads}
use Rattle.media_laws.proofs.Copies.EventMoves.{repeat_is_quiet, sends_are_idle, swallowed_is_quiet, timer_is_quiet}
use Rattle.media_laws.proofs.Copies.TransactionMoves.{nothing_move}
use Rattle.media_laws.proofs.repeats.repeats_move_none.Goals as goal

pub returns-clause-nothing : goal.returns-clause-nothing
returns-clause-nothing c = nothing_move

pub returns-clause-timer : goal.returns-clause-timer
returns-clause-timer c =
    timer_is_quiet (record { same = c.bytes_say_all.ensures.one; bytes = c.bytes_say_all.ensures.bytes; back = c.written_is_read.ensures })
    (record { message = message_reads; name = name_reads; callee = c.dialogs_are_sound.ensures.callee; contact = c.contacts_are_read.ensures })

pub returns-clause-request : goal.returns-clause-request
returns-clause-request c =
    repeat_is_quiet (record { same = c.bytes_say_all.ensures.one; bytes = c.bytes_say_all.ensures.bytes; back = c.written_is_read.ensures })
    (record { message = message_reads; name = name_reads; callee = c.dialogs_are_sound.ensures.callee; contact = c.contacts_are_read.ensures })

pub returns-clause-response : goal.returns-clause-response
returns-clause-response c =
    swallowed_is_quiet (record { same = c.bytes_say_all.ensures.one; bytes = c.bytes_say_all.ensures.bytes; back = c.written_is_read.ensures })
    (record { message = message_reads; name = name_reads; callee = c.dialogs_are_sound.ensures.callee; contact = c.contacts_are_read.ensures })

pub returns-clause-sends : goal.returns-clause-sends
returns-clause-sends c =
    sends_are_idle (record { same = c.bytes_say_all.ensures.one; bytes = c.bytes_say_all.ensures.bytes; back = c.written_is_read.ensures })
    (record { message = message_reads; name = name_reads; callee = c.dialogs_are_sound.ensures.callee; contact = c.contacts_are_read.ensures })
