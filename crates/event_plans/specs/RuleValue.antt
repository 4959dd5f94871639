-- A rule, whose references are to what was found.
use Rattle.plans.specs.CallRule.{call_rule}
use Rattle.event_rows.specs.Rule.{Rule, Alone, Call}
use Rattle.event_plans.specs.declared.rule.Rule.{Rule as LentRule}
use Rattle.event_plans.specs.declared.rule.Rule.TheVariants as lent

abbrev pub rule_value : LentRule → Rule
rule_value (lent.Alone reply) = Alone reply
rule_value (lent.Call rule) = Call (call_rule rule)
