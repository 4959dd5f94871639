use Rattle.message_laws.proofs.Messages.ReadMessages.{message_reads, name_reads}
use Rattle.media_laws.proofs.Scenes.RequestMoves.{refreshed_move, refused_move, replied_move, unfit_branched_move, unreadable_move}
use Rattle.media_laws.proofs.requests.requests_move_none.Goals as goal

pub returns-clause-unreadable : goal.returns-clause-unreadable
returns-clause-unreadable c =
    unreadable_move (record { same = c.bytes_say_all.ensures.one; bytes = c.bytes_say_all.ensures.bytes; back = c.written_is_read.ensures })

pub returns-clause-unfit_branched : goal.returns-clause-unfit_branched
returns-clause-unfit_branched c =
    unfit_branched_move (record { same = c.bytes_say_all.ensures.one; bytes = c.bytes_say_all.ensures.bytes; back = c.written_is_read.ensures })

pub returns-clause-replied : goal.returns-clause-replied
returns-clause-replied c = λ t ds taken bytes ms took s e from q read k begun id.
    replied_move (record { same = c.bytes_say_all.ensures.one; bytes = c.bytes_say_all.ensures.bytes; back = c.written_is_read.ensures }) t ds taken bytes ms took s e from q read k begun id
    (record { message = message_reads; name = name_reads; callee = c.dialogs_are_sound.ensures.callee; contact = c.contacts_are_read.ensures })

pub returns-clause-counted : goal.returns-clause-counted
returns-clause-counted c = λ t ds taken bytes ms took s e from q read k begun id place end.
    refused_move (record { same = c.bytes_say_all.ensures.one; bytes = c.bytes_say_all.ensures.bytes; back = c.written_is_read.ensures }) t ds taken bytes ms took s e from q read k begun id

pub returns-clause-unfit : goal.returns-clause-unfit
returns-clause-unfit c = refused_move (record { same = c.bytes_say_all.ensures.one; bytes = c.bytes_say_all.ensures.bytes; back = c.written_is_read.ensures })

pub returns-clause-refreshed : goal.returns-clause-refreshed
returns-clause-refreshed c = refreshed_move (record { same = c.bytes_say_all.ensures.one; bytes = c.bytes_say_all.ensures.bytes; back = c.written_is_read.ensures })
