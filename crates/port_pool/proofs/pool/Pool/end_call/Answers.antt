use Rattle.std.proofs.Common.{[]}
use Rattle.port_pool.specs.Limits.{min_port}
use Rattle.port_pool.specs.Holdings.{even_of}
use Rattle.port_pool.proofs.HoldingLaws.{holder_of-dropped, rests-dropped}
use Rattle.port_pool.proofs.PoolLaws.{IsPool-without_call, LeadFrom-committed, row-committed}
use Rattle.port_pool.proofs.pool.Pool.end_call.Goals as goal

pub invariant_of-self : goal.invariant_of-self
invariant_of-self c =
    rw (c.drop_all.ensures, c.change_all.ensures, c.requires, ← c.self.view_is)
    (IsPool-without_call (record { holdings = c.self.inside.places; rows = c.self.inside.table }) c.args.call c.args.now c.self.invariant)

pub returns-clause-leads : goal.returns-clause-leads
returns-clause-leads c =
    rw (c.change_all.ensures, c.requires, ← c.self.view_is)
    (LeadFrom-committed (record { holdings = c.self.inside.places; rows = c.self.inside.table }) c.args.call [] c.self.invariant)

pub returns-clause-rows : goal.returns-clause-rows
returns-clause-rows c = λ port.
    rw (c.change_all.ensures, c.requires, ← c.self.view_is)
    (row-committed (record { holdings = c.self.inside.places; rows = c.self.inside.table }) c.args.call [] port c.self.invariant)

pub returns-clause-holder : goal.returns-clause-holder
returns-clause-holder c = λ port.
    rw (c.drop_all.ensures, ← c.self.view_is) (holder_of-dropped c.args.call c.args.now c.self.inside.places (even_of port))

pub returns-clause-rests : goal.returns-clause-rests
returns-clause-rests c = λ port own moment before.
    let held = rw (← c.self.view_is) at own in
    rw c.drop_all.ensures
    (rests-dropped c.args.call c.args.now moment min_port c.self.inside.places (even_of port) c.self.invariant.pairs before held)
