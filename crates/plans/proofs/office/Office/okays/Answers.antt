use Rattle.std.proofs.Common.{◌∙◌, Option, ap}
use Rattle.calls.specs.declared.change.LegDialog.{LegDialog}
use Rattle.call_steps.specs.Rows.{refreshes}
use Rattle.plans.specs.Plan.{Plan}
use Rattle.plans.proofs.PlanLaws.{put_beside}
use Rattle.plans.proofs.office.Office.okays.Goals as goal

pub returns-clause-row : goal.returns-clause-row
returns-clause-row c =
    let s = c.args.self.now in
    let place = c.args.place in
    c.puts.ensures.row s.calls s.acks c.args.setting.now
    ∙ ap (λ (leg : Option LegDialog). put_beside s c.in_ok-plan.plan place leg) (c.in_ok-leg.ensures s.calls.calls place c.requires.there)
    ∙ ap (λ (plan : Plan). put_beside s plan place (refreshes s.calls.calls place c.args.end c.args.request.now)) c.in_ok-plan.ensures

pub returns-clause-fits : goal.returns-clause-fits
returns-clause-fits c = c.puts.ensures.fits c.args.self.now.calls c.args.setting.now
