use Rattle.std.proofs.Common.{rules, sym, subst}
use Rattle.media_laws.specs.Keeping.{RelaysLive}
use Rattle.agent.proofs.agent.Agent.relay.Goals as goal

pub returns-clause-live : goal.returns-clause-live
returns-clause-live c = λ t k h. subst (λ table. RelaysLive c.args.self.now.range.ip table t) (sym (search rules)) (c.agents_stand.ensures.relays c.args.self.now t k h)
