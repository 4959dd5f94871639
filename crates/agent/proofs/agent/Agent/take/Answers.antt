use Rattle.std.proofs.Common.{rules}
use Rattle.agent.proofs.StepLaws.{answer_counted}
use Rattle.agent.proofs.agent.Agent.take.Goals as goal

pub returns-in-Some-clause-answer : goal.returns-in-Some-clause-answer
returns-in-Some-clause-answer c = answer_counted c.args.self.now c.args.event.now c.in-Some.taken (search rules)
