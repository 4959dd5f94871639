use Rattle.trace_reading.proofs.BodyLaws.{bodies_both}
use Rattle.trace_reading.proofs.laws.bodies_describe.Goals as goal

pub returns : goal.returns
returns c = bodies_both
