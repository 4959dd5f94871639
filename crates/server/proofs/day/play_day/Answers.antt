use Rattle.server.proofs.ReplayLaws.{day_told, day_not_told}
use Rattle.server.proofs.day.play_day.Goals as goal

pub returns-clause-written : goal.returns-clause-written
returns-clause-written g c =
    day_told c.write_state.result c.args.notes c.args.agent.now c.play.new.agent c.args.events.now (g.W.Write.contents c.args.writer.now)
    (g.W.Write.contents c.play.new.writer) (g.W.Write.contents c.write_state.new.writer)
    c.in_ok-play.ensures.agent c.in_ok-play.ensures.written c.write_state.ensures.written

pub returns-clause-refused : goal.returns-clause-refused
returns-clause-refused g c =
    day_not_told c.write_state.result c.args.notes c.args.agent.now c.args.events.now (g.W.Write.contents c.args.writer.now)
    (g.W.Write.contents c.play.new.writer) (g.W.Write.contents c.write_state.new.writer)
    c.in_ok-play.ensures.written c.write_state.ensures.refused
