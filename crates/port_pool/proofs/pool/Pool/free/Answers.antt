use Rattle.port_pool.specs.Holdings.{even_of}
use Rattle.port_pool.proofs.HoldingLaws.{holder_of-released, rests-released}
use Rattle.port_pool.proofs.PoolLaws.{IsPool-freed}
use Rattle.port_pool.proofs.pool.Pool.free.Goals as goal

pub invariant_of-self : goal.invariant_of-self
invariant_of-self c =
    let bare = rw (← c.self.view_is) at c.requires.bare in
    rw c.release.ensures (IsPool-freed (record { holdings = c.self.inside.places; rows = c.self.inside.table }) c.args.pair c.args.now c.self.invariant bare)

pub returns-clause-holder : goal.returns-clause-holder
returns-clause-holder c = λ port. rw (c.release.ensures, ← c.self.view_is) (holder_of-released c.args.pair c.args.now c.self.inside.places (even_of port))

pub returns-clause-rests : goal.returns-clause-rests
returns-clause-rests c = λ moment before.
    rw c.release.ensures (rests-released c.args.pair c.args.now moment c.self.inside.places before)
