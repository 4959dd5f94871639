use Rattle.std.proofs.Common.{rules, refl}
use Rattle.call_steps.specs.Effects as steps
use Rattle.plans.proofs.PlanLaws.{effect_as, not_full, stepped_as}
use Rattle.plans.proofs.office.Office.begins_unless_full.Goals as goal

pub returns-clause-row : goal.returns-clause-row
returns-clause-row c =
    let s = c.args.self.now in
    effect_as c.of_step.result s.calls s.acks c.args.setting.now _ _ (not_full s c.args.setting c.args.request.now c.args.begun.items c.args.id (steps.effect s.calls c.args.setting.now c.args.step) (search rules))
    (stepped_as c.of_step.result s.calls s.acks c.args.setting.now _ _ _ _ _ _ _ _ c.alone.ensures.begun c.alone.ensures.send c.alone.ensures.id refl
    (c.of_step.ensures.row s.calls s.acks c.args.setting.now))
