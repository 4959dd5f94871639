use Rattle.std.proofs.Common.{◌≡◌, Some, ap, sym, ◌∙◌}
use Rattle.timers.specs.Queue.{first_due, without}
use Rattle.timers.proofs.Keys.{first_taken}
use Rattle.timers.proofs.Both.{both_without}
use Rattle.timers.proofs.timers.Timers.take_due.Goals as goal

pub invariant_of-self : goal.invariant_of-self
invariant_of-self g c =
    let eq = g.K.PartialEq.eq in
    let laws = g.met.K.Ord in
    let ts = c.self.inside.timers.items in
    let due : first_due ts c.args.now ≡ Some c.in_ok-timer.timer = ap (λ q. first_due q.timers c.args.now) c.self.view_is ∙ sym c.first_due.ensures.first ∙ c.in_ok-timer.was in
    rw (c.take.ensures.others, c.pop_front.ensures.rest, first_taken eq g.met.K.Eq.laws ts c.args.now c.in_ok-timer.timer c.self.invariant.queue.once due)
    (both_without eq g.met.K.Eq.laws g.K.Ord.cmp laws.total laws.matches_eq ts c.self.inside.keys.items c.in_ok-timer.timer.key c.self.invariant)

pub returns-clause-cancelled : goal.returns-clause-cancelled
returns-clause-cancelled g c =
    let eq = g.K.PartialEq.eq in
    let ts = c.self.inside.timers.items in
    let due : first_due ts c.args.now ≡ Some c.in_ok-timer.timer = ap (λ q. first_due q.timers c.args.now) c.self.view_is ∙ sym c.first_due.ensures.first ∙ c.in_ok-timer.was in
    c.pop_front.ensures.rest
    ∙ first_taken eq g.met.K.Eq.laws ts c.args.now c.in_ok-timer.timer c.self.invariant.queue.once due
    ∙ ap (λ q. without eq q.timers c.in_ok-timer.timer.key) c.self.view_is
