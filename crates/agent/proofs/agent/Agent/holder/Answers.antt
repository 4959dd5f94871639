use Rattle.std.proofs.Common.{rules, sym, subst}
use Rattle.media_laws.specs.Keeping.{HoldsFor}
use Rattle.agent.proofs.agent.Agent.holder.Goals as goal

pub returns-clause-live : goal.returns-clause-live
returns-clause-live c = λ t k h. subst (HoldsFor c.args.self.now.calls.calls t c.args.port) (sym (search rules)) (c.agents_stand.ensures.holds c.args.self.now t k c.args.port h)
