use Rattle.std.proofs.Common.{option_map}
use Rattle.server.specs.Stream.{Start}
use Rattle.server.proofs.StreamLaws.{followed, not_followed}
use Rattle.server.proofs.stream.follow.Goals as goal

pub returns-clause-written : goal.returns-clause-written
returns-clause-written g c =
    let start : Start (option_map g.C.Read.remaining c.args.config) = record {
      office = c.in_ok-office.office;
      agent = c.in_ok-agent.agent;
      configured = c.in_ok-office.ensures.read;
      new = c.in_ok-agent.ensures.made;
    } in
    followed c.follow_day.result c.args.notes _ _ _ (g.W.Write.contents c.args.writer.now) (g.W.Write.contents c.follow_day.new.writer) start c.follow_day.ensures.written

pub returns-clause-refused : goal.returns-clause-refused
returns-clause-refused g c =
    let start : Start (option_map g.C.Read.remaining c.args.config) = record {
      office = c.in_ok-office.office;
      agent = c.in_ok-agent.agent;
      configured = c.in_ok-office.ensures.read;
      new = c.in_ok-agent.ensures.made;
    } in
    not_followed c.follow_day.result c.args.notes _ _ (g.W.Write.contents c.args.writer.now) (g.W.Write.contents c.follow_day.new.writer) start c.follow_day.ensures.refused
