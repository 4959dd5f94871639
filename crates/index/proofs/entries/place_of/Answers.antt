use Rattle.std.proofs.Common.{rules}
use Rattle.index.specs.Entries.{is_before}
use Rattle.timers.proofs.Halving.{halved}
use Rattle.index.proofs.Places.{parted}
use Rattle.index.proofs.entries.place_of.Goals as goal

pub returns-clause-place : goal.returns-clause-place
returns-clause-place c =
    let point = c.partition_point.ensures in
    halved (λ e. is_before e c.args.print c.args.number) _ _ point.bound point.partitioned (parted c.args.print c.args.number _ c.requires) (λ a r f k. search rules)
