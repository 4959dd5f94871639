use Rattle.std.proofs.Common.{Option, ◌∙◌, ap}
use Rattle.call_core.specs.declared.input.Input.TheVariants as inputs
use Rattle.calls.specs.declared.change.LegDialog.{LegDialog}
use Rattle.call_steps.specs.Rows.{counts}
use Rattle.responses.specs.Responding.{stateless}
use Rattle.plans.specs.CallRows.{call_row, takes_request}
use Rattle.plans.specs.Office.{Office}
use Rattle.plans.proofs.PlanLaws.{effect_as}
use Rattle.plans.proofs.office.Office.leaves.Goals as goal

pub returns-clause-row : goal.returns-clause-row
unfolding call_row
returns-clause-row c =
    let s = c.args.self.now in
    let counted = c.in_ok-leg.ensures ∙ ap (λ (o : Office). counts o.calls.calls c.args.place c.args.end c.args.request.now.parts.cseq.number) c.self.view_is in
    let told = ap (λ (leg : Option LegDialog). takes_request s c.args.setting c.args.request.now c.args.begun.items c.args.id c.args.place (inputs.Bye c.args.end) leg stateless) counted in
    effect_as c.takes_request-doing.result s.calls s.acks c.args.setting.now _ _ told c.takes_request-doing.ensures.row
