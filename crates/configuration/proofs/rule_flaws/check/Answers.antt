use Rattle.std.proofs.Common.{sym, ◌∙◌}
use Rattle.configuration.proofs.RuleLaws.{kept}
use Rattle.configuration.proofs.JudgeLaws.{keeps}
use Rattle.configuration.proofs.rule_flaws.check.Goals as goal

pub returns-in-None-clause-kept : goal.returns-in-None-clause-kept
returns-in-None-clause-kept c = kept c.args.config.now (keeps c.args.config.now (sym c.rules_flaw.ensures ∙ c.in-None.is))
