use Rattle.std.proofs.Common.{rules, sym, subst}
use Rattle.media_laws.specs.Living.{ListsLive}
use Rattle.agent.proofs.agent.Agent.calls.Goals as goal

pub returns-clause-live : goal.returns-clause-live
returns-clause-live c = λ t k h. subst (λ l. ListsLive l t) (sym (search rules)) (c.agents_stand.ensures.lives c.args.self.now t k h)
