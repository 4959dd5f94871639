use Rattle.std.proofs.Common.{◌≡◌, map}
use Rattle.std.specs.List.{range_with_len}
use Rattle.port_pool.specs.Holdings.{unheld}
use Rattle.port_pool.proofs.holdings.unheld_pairs.Given as goal

abbrev pub invariant-loop-k : goal.invariant-loop-k
invariant-loop-k l = l.holdings.items ≡ map (unheld l.first) (range_with_len 0 l.k)
