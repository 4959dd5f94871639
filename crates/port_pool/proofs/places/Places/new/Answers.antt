use Rattle.std.proofs.Common.{◌∙◌, arith}
use Rattle.port_pool.proofs.CallLaws.{IsIndexed-new}
use Rattle.port_pool.proofs.places.Places.new.Goals as goal

pub invariant_of-result : goal.invariant_of-result
invariant_of-result c =
    rw c.in_ok-holdings.ensures
    (IsIndexed-new c.args.first c.args.pairs c.reserve.new.self c.requires.even c.requires.least c.requires.last
    (c.reserve.ensures.entries ∙ c.new-calls.ensures) (omega (arith, c.in_ok-reserve.ensures.ok, c.from.ensures)))
