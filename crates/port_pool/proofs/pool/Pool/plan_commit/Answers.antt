use Rattle.port_pool.proofs.PoolLaws.{changes_held, LeadFrom-committed, row-committed, lines-committed}
use Rattle.port_pool.proofs.pool.Pool.plan_commit.Goals as goal

pub returns-clause-held : goal.returns-clause-held
returns-clause-held c =
    rw (c.in_ok-changes.ensures, ← c.self.view_is)
    (changes_held (record { holdings = c.self.inside.places; rows = c.self.inside.table }) c.args.call c.args.lines.now c.self.invariant)

pub returns-clause-leads : goal.returns-clause-leads
returns-clause-leads c =
    rw (c.in_ok-changes.ensures, ← c.self.view_is)
    (LeadFrom-committed (record { holdings = c.self.inside.places; rows = c.self.inside.table }) c.args.call c.args.lines.now c.self.invariant)

pub returns-clause-rows : goal.returns-clause-rows
returns-clause-rows c = λ port.
    rw (c.in_ok-changes.ensures, ← c.self.view_is)
    (row-committed (record { holdings = c.self.inside.places; rows = c.self.inside.table }) c.args.call c.args.lines.now port c.self.invariant)

pub returns-clause-lines : goal.returns-clause-lines
returns-clause-lines c =
    let own = rw (← c.self.view_is) at c.requires.own in
    rw (c.in_ok-changes.ensures, ← c.self.view_is)
    (lines-committed (record { holdings = c.self.inside.places; rows = c.self.inside.table }) c.args.call c.args.lines.now c.self.invariant own c.requires.once)
