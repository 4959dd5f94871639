use Rattle.port_pool.proofs.pool.Pool.commit.Goals as goal

pub returns-clause-leads : goal.returns-clause-leads
returns-clause-leads c = rw (c.put.ensures, c.deref.ensures.value) c.in_ok-changes.ensures.leads

pub returns-clause-rows : goal.returns-clause-rows
returns-clause-rows c = rw (c.put.ensures, c.deref.ensures.value) c.in_ok-changes.ensures.rows

pub returns-clause-lines : goal.returns-clause-lines
returns-clause-lines c = rw (c.put.ensures, c.deref.ensures.value) c.in_ok-changes.ensures.lines
