use Rattle.port_pool.proofs.PoolLaws.{IsPool-with_changes}
use Rattle.port_pool.proofs.pool.Pool.put.Goals as goal

pub invariant_of-self : goal.invariant_of-self
invariant_of-self c =
    let held = rw (← c.self.view_is) at c.requires in
    rw c.change_all.ensures (IsPool-with_changes (record { holdings = c.self.inside.places; rows = c.self.inside.table }) c.args.changes.now c.self.invariant held)
