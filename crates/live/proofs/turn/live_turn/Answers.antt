use Rattle.std.proofs.Common.{rules, ◌≡◌, List, subst}
use Rattle.events.specs.declared.sent.Sent.{Sent}
use Rattle.event_rows.specs.Rows.{row}
use Rattle.live.specs.Sending.{Sends}
use Rattle.live.specs.Turns.{published}
use Rattle.live.proofs.TableLaws.{has_table_again}
use Rattle.live.proofs.turn.live_turn.Goals as goal

pub returns-clause-turns : goal.returns-clause-turns
returns-clause-turns g c =
    let agent = c.in-Ok.ensures.agent in
    let board : c.publish.new.board ≡ published c.args.board.now c.step.new.self.changes = search rules in
    let sends : c.deref.result.now ≡ (row c.args.agent.now c.args.event.now).plan.sends = search rules in
    record {
      agent = agent;
      answer = c.in-Ok.ensures.answer;
      board = search (rules, board, agent);
      table = has_table_again c.args.agent.now c.step.new.self c.args.board.now c.publish.new.board c.requires c.in-Ok.ensures.leads board;
      wire = subst (λ (ds : List Sent). Sends (g.W.Wire.seen c.args.wire.now).tried (g.W.Wire.seen c.send_all-failed.new.wire).tried ds c.send_all-failed.result) sends c.send_all-failed.ensures.sends;
      source = c.event_comes_from_source.ensures;
    }
