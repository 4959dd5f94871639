use Rattle.std.proofs.Common.{sym, subst}
use Rattle.call_rules.specs.declared.responses.ResponseRule.{ResponseRule}
use Rattle.call_rules.specs.Responses.{NamesCall}
use Rattle.call_rules.proofs.PlaceLaws.{response_there}
use Rattle.call_rules.proofs.responses.response_rule.Goals as goal

pub returns-clause-there : goal.returns-clause-there
returns-clause-there c =
    subst (λ (r : ResponseRule). NamesCall c.args.calls.now.calls r) (sym c.rule_of.ensures)
    (response_there c.args.calls.now.calls c.args.asked.now.parts c.args.response.now)
