use Rattle.std.proofs.Common.{◌∙◌, None, ap}
use Rattle.call_core.specs.declared.input.Input.{Input}
use Rattle.calls.specs.Changes.{without_timer}
use Rattle.call_steps.specs.Rows.{takes_row}
use Rattle.plans.specs.CallRows.{occasion}
use Rattle.plans.proofs.PlanLaws.{stepped_as}
use Rattle.plans.proofs.office.Office.takes_timer.Goals as goal

pub returns-clause-row : goal.returns-clause-row
returns-clause-row c =
    let s = c.args.self.now in
    let calls = without_timer c.args.timer s.calls in
    let told = ap (λ (input : Input). takes_row calls s.table (occasion s c.args.setting) c.args.place input None None) c.timer_input-input.ensures in
    stepped_as c.of_fired_step.result s.calls s.acks c.args.setting.now _ _ _ _ _ _ _ _ (c.alone-before.ensures.begun ∙ c.new.ensures.items)
    c.alone-before.ensures.send c.alone-before.ensures.id (c.in_ok-step.ensures.row calls.timers ∙ told) (c.of_fired_step.ensures.row s.calls s.acks c.args.setting.now)

pub returns-clause-fits : goal.returns-clause-fits
returns-clause-fits c =
    let calls = c.args.self.now.calls in
    c.of_fired_step.ensures.fits calls c.args.setting.now (c.in_ok-step.ensures.can (without_timer c.args.timer calls).timers)
