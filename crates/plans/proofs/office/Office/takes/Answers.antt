use Rattle.std.proofs.Common.{refl}
use Rattle.plans.proofs.PlanLaws.{stepped_as}
use Rattle.plans.proofs.office.Office.takes.Goals as goal

pub returns-clause-row : goal.returns-clause-row
returns-clause-row c =
    let s = c.args.self.now in
    stepped_as c.of_step.result s.calls s.acks c.args.setting.now _ _ _ _ _ _ _ _ refl refl refl (c.in_ok-step.ensures.row s.calls.timers) (c.of_step.ensures.row s.calls s.acks c.args.setting.now)

pub returns-clause-fits : goal.returns-clause-fits
returns-clause-fits c =
    c.of_step.ensures.fits c.args.self.now.calls c.args.setting.now (c.in_ok-step.ensures.can c.args.self.now.calls.timers)
