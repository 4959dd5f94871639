use Rattle.std.proofs.Common.{rules}
use Rattle.relay.proofs.Counting.{adds}
use Rattle.relay.proofs.counts.Counter.count.Goals as goal

pub fetch_add-requires : goal.fetch_add-requires
fetch_add-requires c = (search rules, search rules, adds _ _ _ _ c.self.invariant.2 (search rules))
