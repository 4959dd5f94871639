use Rattle.std.proofs.Common.{arith}
use Rattle.port_pool.specs.Limits.{min_port}
use Rattle.port_pool.proofs.HoldingLaws.{PairsRise-pairs, held_leads}
use Rattle.port_pool.proofs.PoolLaws.{NeverMeet-pool}
use Rattle.port_pool.proofs.pool.Pool.pairs_never_meet.Goals as goal

pub returns-clause-apart : goal.returns-clause-apart
returns-clause-apart c = rw (← c.self.view_is) (NeverMeet-pool (record { holdings = c.self.inside.places; rows = c.self.inside.table }) c.self.invariant)

pub returns-clause-rising : goal.returns-clause-rising
returns-clause-rising c = rw (← c.self.view_is) (PairsRise-pairs min_port c.self.inside.places c.self.invariant.pairs)

pub returns-clause-ports : goal.returns-clause-ports
returns-clause-ports c = λ even call.
    rw (← c.self.view_is) (held_leads min_port c.self.inside.places even call (omega arith) c.self.invariant.pairs)
