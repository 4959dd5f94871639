use Rattle.std.proofs.Common.{ℕ, ap, subst}
use Rattle.calls.specs.State.{standing}
use Rattle.call_steps.specs.declared.occasion.Occasion.{Occasion}
use Rattle.call_steps.specs.Effects.{with_timers}
use Rattle.plans.specs.Effect.{CanEnter}
use Rattle.plans.proofs.CallLaws.{can_enter_offer}
use Rattle.plans.proofs.office.Office.offer_step.Goals as goal

pub returns-in-Ok-clause-can : goal.returns-in-Ok-clause-can
returns-in-Ok-clause-can c timers =
    let moment = ap (λ (o : Occasion). o.now) c.occasion-o.ensures in
    let can = can_enter_offer _ _ c.in-Ok.step _ _ _ _ _ _ _ _ (c.in-Ok.ensures.row timers) (c.in-Ok.ensures.fits timers) c.in-Ok.ensures.few in
    rw (← c.self.view_is) (subst (λ (now : ℕ). CanEnter (with_timers timers (standing c.self.inside.calls.now)) now c.in-Ok.step) moment can)
