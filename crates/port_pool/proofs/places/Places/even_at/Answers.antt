use Rattle.port_pool.specs.Limits.{min_port}
use Rattle.port_pool.proofs.PlaceLaws.{odd_at}
use Rattle.port_pool.proofs.places.Places.even_at.Goals as goal

pub returns-clause-odd : goal.returns-clause-odd
returns-clause-odd c =
    let less = rw (← c.self.view_is) at c.requires in
    rw c.index.ensures (odd_at min_port c.self.inside.holdings.items c.args.place c.index.result.now c.self.invariant.rising less)
