use Rattle.std.proofs.Common.{rules, ◌≡◌, ap}
use Rattle.agent.specs.declared.agent.Agent.{Agent}
use Rattle.live.specs.Reports.{looked}
use Rattle.live.specs.declared.report.Report.TheVariants.{Looked}
use Rattle.operator.proofs.office_operator.OfficeOperatorOperator.look.Goals as goal

pub returns-clause-told : goal.returns-clause-told
returns-clause-told g c =
    let lent : Looked c.of.result c.args.now ≡ looked c.args.agent.now c.args.now = ap (λ (agent : Agent). looked agent c.args.now) c.of.ensures in
    search (rules, lent)
