use Rattle.std.proofs.Common.{rules}
use Rattle.relay.proofs.Counting.{reads}
use Rattle.relay.proofs.counts.PortCounts.number.Goals as goal

pub load-requires : goal.load-requires
load-requires c = (search rules, search rules, reads _ _ _ _ (search rules))
