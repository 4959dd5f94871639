use Rattle.port_pool.proofs.PoolLaws.{IsPool-new_pool}
use Rattle.port_pool.proofs.pool.Pool.new.Goals as goal

pub invariant_of-result : goal.invariant_of-result
invariant_of-result c = rw (c.in_ok-places.ensures, c.in_ok-table.ensures) (IsPool-new_pool c.args.first c.args.pairs c.requires.even c.requires.least c.requires.last)
