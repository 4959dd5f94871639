use Rattle.std.proofs.Common.{◌≡◌, rules, ap, sym, ◌∙◌}
use Rattle.timers.specs.Queue.{first_due, after_due}
use Rattle.timers.specs.Settings.{taken}
use Rattle.timers.proofs.Keys.{after_first}
use Rattle.timers.proofs.plain.Timers.take_due.Goals as goal

pub returns-clause-cancelled : goal.returns-clause-cancelled
returns-clause-cancelled g c =
    let eq = g.K.PartialEq.eq in
    let rest : c.pop_front.new.self.items ≡ after_due c.args.self.now.timers c.args.now = search rules in
    rest
    ∙ ap (λ q. after_due q.timers c.args.now) (sym c.self.view_is)
    ∙ after_first eq g.met.K.Eq.laws c.self.inside.timers.items c.args.now c.self.invariant.once
    ∙ ap (λ q. taken eq q.timers (first_due q.timers c.args.now)) c.self.view_is
    ∙ ap (taken eq c.args.self.now.timers) (sym c.first_due.ensures.first ∙ c.in_ok-timer.was)
