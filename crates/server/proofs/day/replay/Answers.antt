use Rattle.std.proofs.Common.{option_map, subst, sym}
use Rattle.server.specs.Replay.{Day, IsScript}
use Rattle.server.proofs.ReplayLaws.{replayed, not_replayed}
use Rattle.server.proofs.day.replay.Goals as goal

pub returns-clause-written : goal.returns-clause-written
returns-clause-written g c =
    let day : Day (option_map g.C.Read.remaining c.args.config) (g.S.Read.remaining c.args.script) = record {
      office = c.in_ok-office.office;
      agent = c.in_ok-agent.agent;
      events = c.deref.result.now;
      configured = c.in_ok-office.ensures.read;
      new = c.in_ok-agent.ensures.made;
      told = subst (IsScript (g.S.Read.remaining c.args.script)) (sym c.deref.ensures.value) c.in_ok-events.ensures.read;
    } in
    replayed c.play_day.result c.args.notes _ _ (g.W.Write.contents c.args.writer.now) (g.W.Write.contents c.play_day.new.writer) day c.play_day.ensures.written

pub returns-clause-refused : goal.returns-clause-refused
returns-clause-refused g c =
    let day : Day (option_map g.C.Read.remaining c.args.config) (g.S.Read.remaining c.args.script) = record {
      office = c.in_ok-office.office;
      agent = c.in_ok-agent.agent;
      events = c.deref.result.now;
      configured = c.in_ok-office.ensures.read;
      new = c.in_ok-agent.ensures.made;
      told = subst (IsScript (g.S.Read.remaining c.args.script)) (sym c.deref.ensures.value) c.in_ok-events.ensures.read;
    } in
    not_replayed c.play_day.result c.args.notes _ _ (g.W.Write.contents c.args.writer.now) (g.W.Write.contents c.play_day.new.writer) day c.play_day.ensures.refused
