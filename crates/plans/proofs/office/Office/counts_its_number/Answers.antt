use Rattle.std.proofs.Common.{◌∙◌, Option, ap}
use Rattle.calls.specs.declared.change.LegDialog.{LegDialog}
use Rattle.plans.proofs.PlanLaws.{put_beside}
use Rattle.plans.proofs.office.Office.counts_its_number.Goals as goal

pub returns-clause-row : goal.returns-clause-row
returns-clause-row c = λ now.
    let s = c.args.self.now in
    c.puts.ensures.row s.calls s.acks now
    ∙ ap (λ (leg : Option LegDialog). put_beside s c.args.plan c.args.place leg) (c.in_ok-leg.ensures s.calls.calls c.args.place c.requires.there)

pub returns-clause-fits : goal.returns-clause-fits
returns-clause-fits c = c.puts.ensures.fits c.args.self.now.calls
