use Rattle.std.proofs.Common.{ltb, rules}
use Rattle.std.proofs.lemmas.List.Sorted.{IsPartitionPoint-from_clause}
use Rattle.port_pool.proofs.OrderLaws.{parted_below}
use Rattle.port_pool.proofs.holdings.count_below.Goals as goal

pub returns-clause-point : goal.returns-clause-point
returns-clause-point c =
    IsPartitionPoint-from_clause (λ s. ltb s.even c.args.port) c.args.holdings.now _ c.partition_point.ensures.partitioned (parted_below c.args.port c.args.holdings.now c.requires) (λ a r f k. search rules)
