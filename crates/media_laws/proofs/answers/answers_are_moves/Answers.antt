use Rattle.media_laws.proofs.OfferPairs.FitLines.{asked_fit, reasked_fit, update_fit}
use Rattle.media_laws.proofs.answers.answers_are_moves.Goals as goal

pub returns-clause-first : goal.returns-clause-first
returns-clause-first c = asked_fit (record { same = c.bytes_say_all.ensures.one; bytes = c.bytes_say_all.ensures.bytes; back = c.written_is_read.ensures })

pub returns-clause-invite : goal.returns-clause-invite
returns-clause-invite c = reasked_fit (record { same = c.bytes_say_all.ensures.one; bytes = c.bytes_say_all.ensures.bytes; back = c.written_is_read.ensures })

pub returns-clause-update : goal.returns-clause-update
returns-clause-update c = update_fit (record { same = c.bytes_say_all.ensures.one; bytes = c.bytes_say_all.ensures.bytes; back = c.written_is_read.ensures })
