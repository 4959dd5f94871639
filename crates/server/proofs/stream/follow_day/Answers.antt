use Rattle.server.proofs.StreamLaws.{day_followed, day_not_followed}
use Rattle.server.proofs.stream.follow_day.Goals as goal

pub returns-clause-written : goal.returns-clause-written
returns-clause-written g c =
    day_followed c.write_state.result c.args.notes c.args.agent.now c.play_input.new.agent (g.R.Read.remaining c.args.reader.now) (g.R.Read.remaining c.play_input.new.reader)
    (g.W.Write.contents c.args.writer.now) (g.W.Write.contents c.play_input.new.writer) (g.W.Write.contents c.write_state.new.writer)
    c.in_ok-play_input.ensures.written c.write_state.ensures.written

pub returns-clause-refused : goal.returns-clause-refused
returns-clause-refused g c =
    day_not_followed c.write_state.result c.args.notes c.args.agent.now c.play_input.new.agent (g.R.Read.remaining c.args.reader.now) (g.R.Read.remaining c.play_input.new.reader)
    (g.W.Write.contents c.args.writer.now) (g.W.Write.contents c.play_input.new.writer) (g.W.Write.contents c.write_state.new.writer)
    c.in_ok-play_input.ensures.written c.write_state.ensures.refused
