use Rattle.std.proofs.Common.{◌≡◌, ◌∙◌, false, None, ap, sym}
use Rattle.timers.specs.Queue.{stands, without}
use Rattle.timers.proofs.Keys.{without_none}
use Rattle.timers.proofs.Both.{both_without, stood_both}
use Rattle.timers.proofs.timers.Timers.cancel.Goals as goal

pub invariant_of-self : goal.invariant_of-self
invariant_of-self g c =
    let laws = g.met.K.Ord in
    rw (c.remove.ensures.others, c.take.ensures.others)
    (both_without g.K.PartialEq.eq g.met.K.Eq.laws g.K.Ord.cmp laws.total laws.matches_eq c.self.inside.timers.items c.self.inside.keys.items c.args.key c.self.invariant)

pub invariant_of-self-in_default : goal.invariant_of-self-in_default
invariant_of-self-in_default g c =
    let laws = g.met.K.Ord in
    let ts = c.self.inside.timers.items in
    let none : stands g.K.PartialEq.eq ts c.args.key ≡ false =
    stood_both g.K.PartialEq.eq g.met.K.Eq.laws g.K.Ord.cmp laws.total laws.matches_eq ts c.self.inside.keys.items c.args.key None c.self.invariant (sym c.in_default.is ∙ c.take.ensures.moment) in
    rw (c.take.ensures.others, ← without_none g.K.PartialEq.eq g.met.K.Eq.laws ts c.args.key none)
    (both_without g.K.PartialEq.eq g.met.K.Eq.laws g.K.Ord.cmp laws.total laws.matches_eq ts c.self.inside.keys.items c.args.key c.self.invariant)

pub returns-in_default-clause-timers : goal.returns-in_default-clause-timers
returns-in_default-clause-timers g c =
    let laws = g.met.K.Ord in
    let ts = c.self.inside.timers.items in
    let none : stands g.K.PartialEq.eq ts c.args.key ≡ false =
    stood_both g.K.PartialEq.eq g.met.K.Eq.laws g.K.Ord.cmp laws.total laws.matches_eq ts c.self.inside.keys.items c.args.key None c.self.invariant (sym c.in_default.is ∙ c.take.ensures.moment) in
    sym (without_none g.K.PartialEq.eq g.met.K.Eq.laws ts c.args.key none) ∙ ap (λ q. without g.K.PartialEq.eq q.timers c.args.key) c.self.view_is
