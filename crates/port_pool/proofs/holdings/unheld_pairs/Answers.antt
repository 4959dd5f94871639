use Rattle.std.proofs.Common.{refl, arith}
use Rattle.std.proofs.lemmas.List.FromFn.{map-range_with_len_more}
use Rattle.port_pool.specs.Holdings.{unheld}
use Rattle.port_pool.proofs.holdings.unheld_pairs.Goals as goal

pub loop-k-preserved : goal.loop-k-preserved
loop-k-preserved c =
    rw (map-range_with_len_more (unheld c.args.first) 0 c.loop-k.k c.loop-k.k (omega arith), c.in_ok-push.ensures.items, c.loop-k.invariant) refl
