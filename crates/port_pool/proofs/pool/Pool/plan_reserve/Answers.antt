use Rattle.std.proofs.Common.{arith}
use Rattle.port_pool.specs.Limits.{min_port}
use Rattle.port_pool.specs.Holdings.{even_of}
use Rattle.port_pool.proofs.HoldingLaws.{free_given, given_unheld, lowest_below, leads_given, rising_given}
use Rattle.port_pool.proofs.pool.Pool.plan_reserve.Goals as goal

pub returns-clause-free : goal.returns-clause-free
returns-clause-free c = rw (c.in_ok-pairs.ensures, c.holdings.ensures.same, ← c.self.view_is) (free_given c.args.now c.args.n c.self.inside.places)

pub returns-clause-unheld : goal.returns-clause-unheld
returns-clause-unheld c = λ port.
    rw (c.in_ok-pairs.ensures, c.holdings.ensures.same, ← c.self.view_is)
    (given_unheld c.args.now c.args.n min_port c.self.inside.places (even_of port) c.self.invariant.pairs)

pub returns-clause-lowest : goal.returns-clause-lowest
returns-clause-lowest c = λ even.
    rw (c.in_ok-pairs.ensures, c.holdings.ensures.same, ← c.self.view_is)
    (lowest_below c.args.now c.args.n min_port c.self.inside.places even c.self.invariant.pairs)

pub returns-clause-ports : goal.returns-clause-ports
returns-clause-ports c =
    rw (c.in_ok-pairs.ensures, c.holdings.ensures.same)
    (leads_given c.args.now c.args.n min_port c.self.inside.places (omega arith) c.self.invariant.pairs)

pub returns-clause-rising : goal.returns-clause-rising
returns-clause-rising c =
    rw (c.in_ok-pairs.ensures, c.holdings.ensures.same)
    (rising_given c.args.now c.args.n min_port c.self.inside.places c.self.invariant.pairs)
