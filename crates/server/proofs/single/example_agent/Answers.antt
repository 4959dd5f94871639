use Rattle.std.proofs.Common.{◌∙◌, ap}
use Rattle.configuration.specs.Rules.{first_broken}
use Rattle.server.proofs.ReplayLaws.{example_keeps}
use Rattle.server.proofs.single.example_agent.Goals as goal

pub agent_of-requires : goal.agent_of-requires
agent_of-requires c = ap first_broken c.in_ok-config.ensures ∙ example_keeps
