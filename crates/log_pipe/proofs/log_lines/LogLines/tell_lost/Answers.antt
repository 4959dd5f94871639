use Rattle.std.proofs.Common.{refl, ◌∙◌, arith}
use Rattle.log_pipe.proofs.LossLaws.{told}
use Rattle.log_pipe.proofs.log_lines.LogLines.tell_lost.Goals as goal

pub returns-in-Ok : goal.returns-in-Ok
returns-in-Ok c =
    told c.args.self.now (record { ring = c.push_entire_slice.new.self; lost = 0 }) c.as_bytes.result.now (omega (arith, c.if-self-eq0.false))
    (c.as_bytes.ensures ∙ c.new-line.ensures) refl c.in-Ok.ensures.ok.0
