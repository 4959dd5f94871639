use Rattle.std.proofs.Common.{◌∙◌}
use Rattle.timers.proofs.ByKey.{moment_is}
use Rattle.timers.proofs.by_key.moment.Goals as goal

pub returns : goal.returns
returns g c =
    c.moment_at.ensures
    ∙ rw c.place_of.ensures.place (moment_is g.K.PartialEq.eq g.K.Ord.cmp g.met.K.Ord.total g.met.K.Ord.matches_eq c.args.keys.now.items c.args.key c.requires)
