use Rattle.std.proofs.Common.{◌∙◌, ap}
use Rattle.configuration.specs.Rules.{first_broken}
use Rattle.server.proofs.ReplayLaws.{example_keeps}
use Rattle.server.proofs.day.office_of.Goals as goal

pub returns-in_ok-example_config-in-None-clause-kept :
    goal.returns-in_ok-example_config-in-None-clause-kept
returns-in_ok-example_config-in-None-clause-kept g c = ap first_broken c.in_ok-example_config-in-None.ensures ∙ example_keeps
