use Rattle.std.proofs.Common.{rules}
use Rattle.std.specs.Ordering.{is_lt}
use Rattle.timers.proofs.Halving.{counted}
use Rattle.timers.proofs.ByKey.{parted_by_key, by_partial}
use Rattle.timers.proofs.by_key.place_of.Goals as goal

pub returns-clause-place : goal.returns-clause-place
returns-clause-place g c =
    let eq = g.K.PartialEq.eq in
    let cmp = g.K.Ord.cmp in
    let laws = g.met.K.Ord in
    counted (λ t. is_lt (cmp t.key c.args.key)) c.args.keys.now.items c.ring_partition_point.result c.ring_partition_point.ensures.place (parted_by_key eq cmp laws.total laws.matches_eq c.args.key _ c.requires)
    (λ a r f k. by_partial eq cmp laws.total laws.matches_eq g.K.PartialOrd.partial_cmp laws.matches_partial_cmp a.0.now.key c.args.key r (search rules))
