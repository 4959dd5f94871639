use Rattle.std.proofs.Common.{subst, sym}
use Rattle.event_rows.specs.Rule.{HandsOn}
use Rattle.event_rows.proofs.RuleLaws.{request_hands_on}
use Rattle.event_plans.proofs.rows.ruled_row.Goals as goal

pub rule_row-requires-clause-found : goal.rule_row-requires-clause-found
rule_row-requires-clause-found c =
    subst (HandsOn c.args.office.now.calls.calls c.args.request.now) (sym c.in_ok-rule.ensures.rule) (request_hands_on c.args.office.now c.args.request.now c.args.setting.now)
