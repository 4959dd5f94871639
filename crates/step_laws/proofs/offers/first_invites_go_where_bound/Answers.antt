use Rattle.step_laws.proofs.FirstTargets.{agents_bound, first_bound}
use Rattle.step_laws.proofs.offers.first_invites_go_where_bound.Goals as goal

pub returns-clause-bound : goal.returns-clause-bound
returns-clause-bound c = first_bound

pub returns-clause-agents : goal.returns-clause-agents
returns-clause-agents c = agents_bound
