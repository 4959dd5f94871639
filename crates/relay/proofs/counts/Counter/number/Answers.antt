use Rattle.std.proofs.Common.{rules}
use Rattle.relay.proofs.Counting.{reads_own}
use Rattle.relay.proofs.counts.Counter.number.Goals as goal

pub load-requires : goal.load-requires
load-requires c = (search rules, search rules, reads_own _ _ _ _ c.self.invariant.2 (search rules))
