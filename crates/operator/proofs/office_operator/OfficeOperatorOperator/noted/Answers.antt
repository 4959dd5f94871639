use Rattle.std.proofs.Common.{rules, ◌≡◌, ap}
use Rattle.agent.specs.declared.agent.Agent.{Agent}
use Rattle.live.specs.Reports.{noted}
use Rattle.live.specs.declared.report.Report.TheVariants.{Noted}
use Rattle.operator.proofs.office_operator.OfficeOperatorOperator.noted.Goals as goal

pub returns-clause-told : goal.returns-clause-told
returns-clause-told g c =
    let lent : Noted c.of.result c.args.source c.args.now ≡ noted c.args.agent.now c.args.source c.args.now =
    ap (λ (agent : Agent). noted agent c.args.source c.args.now) c.of.ensures in
    search (rules, lent)
