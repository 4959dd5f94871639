use Rattle.std.proofs.Common.{rules, ltb}
use Rattle.timers.proofs.Halving.{counted}
use Rattle.timers.proofs.ByMoment.{parted_at}
use Rattle.timers.proofs.by_moment.first_at.Goals as goal

pub returns-clause-place : goal.returns-clause-place
returns-clause-place g c =
    counted (λ t. ltb t.at c.args.at) c.args.timers.now.items c.ring_partition_point.result c.ring_partition_point.ensures.place (parted_at c.args.at _ c.requires) (λ a r f k. search rules)
