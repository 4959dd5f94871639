use Rattle.call_trace.proofs.Promised.{promised}
use Rattle.call_trace.proofs.laws.relayed_is_promised.Goals as goal

pub returns : goal.returns
returns c = promised c.joined_is_direct.ensures
