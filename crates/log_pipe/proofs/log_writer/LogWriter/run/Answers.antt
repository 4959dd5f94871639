use Rattle.std.proofs.Common.{ap, rules}
use Rattle.log_pipe.proofs.WritingLaws.{one_round_more, waited}
use Rattle.log_pipe.proofs.log_writer.LogWriter.run.Goals as goal

pub returns-then-is_last-clause-writes : goal.returns-then-is_last-clause-writes
returns-then-is_last-clause-writes g c =
    one_round_more c.args.self.now c.loop.self c.write_both-are_any.new.self c.loop.invariant.writes c.write_both-are_any.ensures

pub loop-preserved-then-not-are_any : goal.loop-preserved-then-not-are_any
loop-preserved-then-not-are_any g c = record {
  writes =
      waited c.args.self.now c.write_both-are_any.new.self c.wait.new.self
      (one_round_more c.args.self.now c.loop.self c.write_both-are_any.new.self c.loop.invariant.writes c.write_both-are_any.ensures)
      (ap (λ stream. stream.texts) c.wait.ensures) (ap (λ stream. stream.patience) c.wait.ensures);
  room = search rules;
}

pub loop-preserved : goal.loop-preserved
loop-preserved g c = record {
  writes = one_round_more c.args.self.now c.loop.self c.write_both-are_any.new.self c.loop.invariant.writes c.write_both-are_any.ensures;
  room = search rules;
}
