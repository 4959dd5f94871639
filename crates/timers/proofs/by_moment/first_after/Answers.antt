use Rattle.std.proofs.Common.{rules, leb}
use Rattle.timers.proofs.Halving.{counted}
use Rattle.timers.proofs.ByMoment.{parted_after}
use Rattle.timers.proofs.by_moment.first_after.Goals as goal

pub returns-clause-place : goal.returns-clause-place
returns-clause-place g c =
    counted (λ t. leb t.at c.args.at) c.args.timers.now.items c.ring_partition_point.result c.ring_partition_point.ensures.place (parted_after c.args.at _ c.requires) (λ a r f k. search rules)
