use Rattle.std.proofs.Common.{[]}
use Rattle.port_pool.proofs.PoolLaws.{LeadFrom-committed}
use Rattle.port_pool.proofs.pool.Pool.plan_drop.Goals as goal

pub returns-clause-leads : goal.returns-clause-leads
returns-clause-leads c =
    rw (c.in_ok-removals.ensures, ← c.self.view_is)
    (LeadFrom-committed (record { holdings = c.self.inside.places; rows = c.self.inside.table }) c.args.call [] c.self.invariant)
