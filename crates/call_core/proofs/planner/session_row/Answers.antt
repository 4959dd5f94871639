use Rattle.std.proofs.Common.{◌≡◌, ◌∙◌, None, Some, subst, sym}
use Rattle.call_core.specs.declared.signal.Signal.TheVariants as signals
use Rattle.call_core.specs.Plans.{AnswersOn, IsLine}
use Rattle.call_core.specs.Table.{row_of}
use Rattle.call_core.proofs.TableLaws.{answer_leads}
use Rattle.call_core.proofs.planner.session_row.Goals as goal

pub unreachable-requires : goal.unreachable-requires
unreachable-requires c =
    let line : row_of c.args.standing signals.FitAnswer ≡ None = sym c.in_ok-row.ensures ∙ c.in-None.is in
    subst (IsLine AnswersOn) line (answer_leads c.args.standing c.requires)

pub returns-clause-leads : goal.returns-clause-leads
returns-clause-leads c =
    let line : row_of c.args.standing signals.FitAnswer ≡ Some c.in-Some.row = sym c.in_ok-row.ensures ∙ c.in-Some.is in
    subst (IsLine AnswersOn) line (answer_leads c.args.standing c.requires)
