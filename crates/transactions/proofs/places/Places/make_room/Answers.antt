use Rattle.std.proofs.Common.{ap, is_none, length, arith}
use Rattle.index.proofs.NumberLaws.{numbers_few}
use Rattle.transactions.proofs.places.Places.make_room.Goals as goal

pub overflow_sub-used : goal.overflow_sub-used
overflow_sub-used c =
    let slots = c.self.inside.slots in
    let few = numbers_few is_none slots.items 0 in
    let shown = ap length c.self.invariant.0.without in
    omega (arith, few, shown, c.len.ensures, c.len-2.ensures, c.reserve.ensures.len, slots.ok.0)
