use Rattle.port_pool.specs.Limits.{min_port}
use Rattle.port_pool.specs.Holdings.{even_of}
use Rattle.port_pool.proofs.HoldingLaws.{holder_of-others, rests-others}
use Rattle.port_pool.proofs.PoolLaws.{IsPool-others}
use Rattle.port_pool.proofs.pool.Pool.free_others.Goals as goal

pub invariant_of-self : goal.invariant_of-self
invariant_of-self c =
    let bare = rw (← c.self.view_is) at c.requires in
    rw c.free_others.ensures
    (IsPool-others (record { holdings = c.self.inside.places; rows = c.self.inside.table }) c.args.call c.args.kept.now c.args.now c.self.invariant bare)

pub returns-clause-holder : goal.returns-clause-holder
returns-clause-holder c = λ port.
    rw (c.free_others.ensures, ← c.self.view_is) (holder_of-others c.args.call c.args.kept.now c.args.now c.self.inside.places (even_of port))

pub returns-clause-rests : goal.returns-clause-rests
returns-clause-rests c = λ port own out moment before.
    let held = rw (← c.self.view_is) at own in
    rw c.free_others.ensures
    (rests-others c.args.call c.args.kept.now c.args.now moment min_port c.self.inside.places (even_of port) c.self.invariant.pairs before held out)
