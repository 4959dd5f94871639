use Rattle.std.proofs.Common.{◌∙◌, Some, ap}
use Rattle.call_steps.specs.Rows.{takes_row}
use Rattle.call_steps.specs.Values.{AskerValue}
use Rattle.plans.specs.CallRows.{occasion}
use Rattle.plans.proofs.PlanLaws.{stepped_as}
use Rattle.plans.proofs.office.Office.takes_request.Goals as goal

pub returns-clause-row : goal.returns-clause-row
returns-clause-row c =
    let s = c.args.self.now in
    let asked = ap (λ (a : AskerValue). takes_row s.calls s.table (occasion s c.args.setting) c.args.place c.args.input.now c.args.leg (Some a)) c.asker-asker.ensures in
    stepped_as c.of_step.result s.calls s.acks c.args.setting.now _ _ _ _ _ _ _ _ c.alone.ensures.begun c.alone.ensures.send c.alone.ensures.id
    (c.in_ok-step.ensures.row s.calls.timers ∙ asked) (c.of_step.ensures.row s.calls s.acks c.args.setting.now)

pub returns-clause-fits : goal.returns-clause-fits
returns-clause-fits c =
    c.of_step.ensures.fits c.args.self.now.calls c.args.setting.now (c.in_ok-step.ensures.can c.args.self.now.calls.timers)
