use Rattle.call_media.proofs.SessionLaws.{none_kept, serves_ended, spares_ended}
use Rattle.call_media.proofs.state.CallMedia.end.Goals as goal

pub returns-clause-gone : goal.returns-clause-gone
returns-clause-gone c = none_kept c.args.self.now.number c.args.pool.now c.end_call.new.self c.end_call.ensures.holder

pub returns-clause-serves : goal.returns-clause-serves
returns-clause-serves c =
    rw (c.take.ensures.after, c.take-2.ensures.after) (serves_ended c.args.self.now c.args.pool.now c.end_call.new.self c.requires.serves c.end_call.ensures.holder)

pub returns-clause-spares : goal.returns-clause-spares
returns-clause-spares c = spares_ended c.args.self.now.number c.args.pool.now c.end_call.new.self c.end_call.ensures.holder c.end_call.ensures.rows
