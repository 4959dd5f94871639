use Rattle.media_laws.proofs.CallLines.Stages.{stage_moves}
use Rattle.media_laws.proofs.lines.lines_are_moves.Goals as goal

pub returns : goal.returns
returns c = record { line = stage_moves }
