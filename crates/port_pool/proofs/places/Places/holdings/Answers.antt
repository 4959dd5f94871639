use Rattle.port_pool.specs.Limits.{min_port}
use Rattle.port_pool.proofs.HoldingLaws.{PairsRise-pairs}
use Rattle.port_pool.proofs.places.Places.holdings.Goals as goal

pub returns-clause-rise : goal.returns-clause-rise
returns-clause-rise c = rw c.deref.ensures.value (PairsRise-pairs min_port c.self.inside.holdings.items c.self.invariant.rising)
