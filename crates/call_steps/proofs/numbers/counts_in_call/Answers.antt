use Rattle.std.proofs.Common.{◌≡◌, ◌∙◌, IfOk, Option, ap, subst}
use Rattle.dialogs.specs.declared.state.Dialog.{Dialog}
use Rattle.calls.specs.declared.change.LegDialog.{LegDialog}
use Rattle.call_steps.specs.Rows.{counts_in}
use Rattle.call_steps.proofs.StepLaws.{counts_there}
use Rattle.call_steps.proofs.numbers.counts_in_call.Goals as goal

pub returns : goal.returns
returns c = λ calls place there.
    let same = ap (λ (d : Option Dialog). counts_in c.args.end c.args.number d) c.dialog.ensures ∙ counts_there calls place c.args.end c.args.number c.args.call.now there in
    subst (λ (x : Option LegDialog). IfOk c.counts_in.result (λ leg. leg ≡ x)) same c.counts_in.ensures
