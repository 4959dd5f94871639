use Rattle.std.proofs.Common.{◌∙◌, ap, sym}
use Rattle.std.specs.Prelude.{is_some}
use Rattle.timers.proofs.Standing.{queue_without}
use Rattle.timers.proofs.Both.{stands_both}
use Rattle.timers.proofs.Keys.{moment_stands}
use Rattle.timers.proofs.timers.set_anew.Goals as goal

pub put-requires-clause-rise : goal.put-requires-clause-rise
put-requires-clause-rise g c =
    rw c.remove.ensures.others (queue_without g.K.PartialEq.eq g.met.K.Eq.laws c.args.timers.now.items c.args.timer.key c.requires.both.queue).rise

pub replace-requires-clause-stands : goal.replace-requires-clause-stands
replace-requires-clause-stands g c =
    let laws = g.met.K.Ord in
    stands_both g.K.PartialEq.eq g.met.K.Eq.laws g.K.Ord.cmp laws.total laws.matches_eq c.args.timers.now.items c.args.keys.now.items c.args.timer.key c.requires.both
    ∙ sym (moment_stands g.K.PartialEq.eq c.args.timers.now.items c.args.timer.key)
    ∙ ap is_some c.requires.moment
