use Rattle.std.proofs.Common.{◌∙◌, ap, refl}
use Rattle.call_steps.specs.declared.occasion.Occasion.{Occasion}
use Rattle.call_steps.specs.Rows.{late_row}
use Rattle.plans.proofs.PlanLaws.{enters_alone, stepped_as}
use Rattle.plans.proofs.office.Office.acks_late.Goals as goal

pub returns-clause-row : goal.returns-clause-row
returns-clause-row c =
    let s = c.args.self.now in
    let row = c.in_ok-step.ensures.row s.calls c.args.setting.now ∙ ap (λ (o : Occasion). late_row s.calls o c.args.asked.now.parts c.args.response.now) c.occasion.ensures in
    stepped_as c.of_step.result s.calls s.acks c.args.setting.now _ _ _ _ _ _ _ _ refl refl refl row (c.of_step.ensures.row s.calls s.acks c.args.setting.now)

pub returns-clause-fits : goal.returns-clause-fits
returns-clause-fits c =
    let calls = c.args.self.now.calls in
    c.of_step.ensures.fits calls c.args.setting.now
    (enters_alone calls c.args.setting.now c.in_ok-step.step (c.in_ok-step.ensures.fits calls c.args.setting.now) c.in_ok-step.ensures.few (c.in_ok-step.ensures.begun calls c.args.setting.now))
