use Rattle.std.proofs.Common.{◌∙◌, ap, sym}
use Rattle.timers.specs.Queue.{put}
use Rattle.timers.proofs.Keys.{without_none}
use Rattle.timers.proofs.Both.{stands_both}
use Rattle.timers.proofs.timers.add.Goals as goal

pub insert-requires-clause-none : goal.insert-requires-clause-none
insert-requires-clause-none g c =
    let laws = g.met.K.Ord in
    stands_both g.K.PartialEq.eq g.met.K.Eq.laws g.K.Ord.cmp laws.total laws.matches_eq c.args.timers.now.items c.args.keys.now.items c.args.timer.key c.requires.both ∙ c.requires.none

pub returns-clause-timers : goal.returns-clause-timers
returns-clause-timers g c =
    c.put.ensures.put ∙ ap (λ ts. put ts c.args.timer) (sym (without_none g.K.PartialEq.eq g.met.K.Eq.laws c.args.timers.now.items c.args.timer.key c.requires.none))
