use Rattle.std.proofs.Common.{rules, ltb, arith}
use Rattle.timers.proofs.Halving.{halved}
use Rattle.transactions.proofs.FreeLaws.{parted}
use Rattle.transactions.proofs.free_numbers.place_of.Goals as goal

pub returns-clause-place : goal.returns-clause-place
returns-clause-place c =
    let point = c.partition_point.ensures in
    halved (λ n. ltb n c.args.number) c.args.numbers.now.items c.partition_point.result (omega (arith, point.bound, c.args.numbers.now.ok.0)) point.partitioned (parted c.args.number _ c.requires) (λ a r f k. search rules)
