use Rattle.std.proofs.Common.{arith}
use Rattle.timers.proofs.ByMoment.{steps_is, place_within}
use Rattle.timers.proofs.by_moment.place_of.Goals as goal

pub overflow_add-result : goal.overflow_add-result
overflow_add-result g c =
    let eq = g.K.PartialEq.eq in
    let is = steps_is eq c.args.key c.args.timers.now.items c.args.at c.first_at-start.result c.steps_to.result c.first_at-start.ensures.place c.steps_to.ensures c.requires.moment in
    let within = place_within eq c.args.key c.args.timers.now.items c.args.at c.requires.moment in
    omega (arith, is, within, c.args.timers.now.ok.0, c.args.timers.now.small)

pub returns-clause-bound : goal.returns-clause-bound
returns-clause-bound g c =
    let eq = g.K.PartialEq.eq in
    let is = steps_is eq c.args.key c.args.timers.now.items c.args.at c.first_at-start.result c.steps_to.result c.first_at-start.ensures.place c.steps_to.ensures c.requires.moment in
    let within = place_within eq c.args.key c.args.timers.now.items c.args.at c.requires.moment in
    omega (arith, is, within, c.args.timers.now.ok.0, c.args.timers.now.small)

pub returns-clause-place : goal.returns-clause-place
returns-clause-place g c =
    steps_is g.K.PartialEq.eq c.args.key c.args.timers.now.items c.args.at c.first_at-start.result c.steps_to.result c.first_at-start.ensures.place c.steps_to.ensures c.requires.moment
