use Rattle.port_pool.specs.Holdings.{even_of}
use Rattle.port_pool.proofs.HoldingLaws.{holder_of-held}
use Rattle.port_pool.proofs.PoolLaws.{IsPool-with_pairs}
use Rattle.port_pool.proofs.pool.Pool.hold.Goals as goal

pub invariant_of-self : goal.invariant_of-self
invariant_of-self c =
    let free = rw (← c.self.view_is) at c.requires in
    rw c.take.ensures (IsPool-with_pairs (record { holdings = c.self.inside.places; rows = c.self.inside.table }) c.args.call c.args.pairs.now c.args.now c.self.invariant free)

pub returns-clause-holder : goal.returns-clause-holder
returns-clause-holder c = λ port.
    let free = rw (← c.self.view_is) at c.requires in
    rw (c.take.ensures, ← c.self.view_is) (holder_of-held c.args.now c.args.call c.args.pairs.now c.self.inside.places (even_of port) free)
