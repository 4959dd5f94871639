use Rattle.std.proofs.Common.{rules, ◌≡◌}
use Rattle.event_rows.specs.Rows.{row}
use Rattle.server.specs.Replay.{text_of}
use Rattle.server.proofs.ReplayLaws.{event_told}
use Rattle.server.proofs.day.play_event.Goals as goal

pub returns-clause-written : goal.returns-clause-written
returns-clause-written g c =
    let sends : c.in_ok-text.text.items ≡ text_of (row c.args.agent.now c.args.event.now).plan.sends = search rules in
    event_told c.write_out.result c.args.notes c.args.agent.now c.args.event.now (g.W.Write.contents c.args.writer.now) (g.W.Write.contents c.write_out.new.writer)
    c.in_ok-text.text.items c.put_told.new.out.items sends c.in_ok-put_told.ensures.tells (search rules)
