use Rattle.std.proofs.Common.{refl, rules}
use Rattle.log_pipe.proofs.LossLaws.{loses, passes}
use Rattle.log_pipe.proofs.log_lines.LogLines.put.Goals as goal

pub returns-in-Ok : goal.returns-in-Ok
returns-in-Ok c =
    passes c.args.lines.now c.args.self.now c.tell_lost.new.self (record { ring = c.push_entire_slice.new.self; lost = c.tell_lost.new.self.lost })
    c.tell_lost.ensures c.in-Ok.ensures.ok.0 refl

pub returns-in-Err : goal.returns-in-Err
returns-in-Err c =
    loses c.args.lines.now c.args.self.now c.tell_lost.new.self (record { ring = c.push_entire_slice.new.self; lost = c.saturating_add-self.result })
    c.tell_lost.ensures c.in-Err.ensures.full.0.1 c.in-Err.ensures.full.2 (search rules)
