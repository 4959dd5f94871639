use Rattle.std.proofs.Common.{◌<◌, length, arith}
use Rattle.port_pool.proofs.OrderLaws.{place_found, place_none}
use Rattle.port_pool.proofs.holdings.place_of.Goals as goal
use Rattle.port_pool.proofs.holdings.place_of.Goals.{then-place-holdings-via-then-place-holdings, then-place-holdings-via-else-place-holdings+then-holdings-place}

pub returns-then-place-holdings : goal.returns-then-place-holdings
returns-then-place-holdings c =
    place_none c.args.even c.args.holdings.now c.count_below-place.result c.count_below-place.ensures.point c.requires
    (λ less same. elim c.then-place-holdings.branch [
      | then-place-holdings-via-then-place-holdings w ↦ (let past = w.if-place-holdings.true in omega (arith, past, less))
      | then-place-holdings-via-else-place-holdings+then-holdings-place w ↦ w.if-holdings-place.true same
    ])

pub returns : goal.returns
returns c =
    let ne = c.if-place-holdings.false in
    let less : c.count_below-place.result < length c.args.holdings.now = omega (arith, c.count_below-place.ensures.bound, ne) in
    place_found c.args.even c.args.holdings.now c.count_below-place.result c.count_below-place.ensures.point less c.if-holdings-place.false
