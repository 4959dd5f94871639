use Rattle.std.proofs.Common.{rules, subst}
use Rattle.media_laws.specs.Standing.{StandsThrough}
use Rattle.agent.proofs.StandingLaws.{if_done, if_refused}
use Rattle.agent.proofs.agent.Agent.run.Goals as goal

pub returns-clause-stands : goal.returns-clause-stands
returns-clause-stands c =
    if_done c.run_in.result _ _
    (λ h. subst (λ l. StandsThrough c.args.self.now l c.run_in.new.entries.items c.run_in.new.self) (search rules)
    (c.agents_stand.ensures.runs c.args.self.now c.trace.inside.entries.items c.run_in.new.entries.items c.args.events.now c.run_in.new.self h c.run_in.ensures.sources)) c.run_in.ensures.ran

pub returns-clause-front_stands : goal.returns-clause-front_stands
returns-clause-front_stands c =
    if_refused c.run_in.result _ _
    (λ h. subst (λ l. StandsThrough c.args.self.now l c.run_in.new.entries.items c.run_in.new.self) (search rules)
    (c.agents_stand.ensures.runs c.args.self.now c.trace.inside.entries.items c.run_in.new.entries.items h.0 c.run_in.new.self h.3 c.run_in.ensures.sources)) c.run_in.ensures.front
