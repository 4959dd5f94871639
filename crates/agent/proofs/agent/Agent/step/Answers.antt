use Rattle.std.specs.Prelude.{◌≡◌, ◌++◌}
use Rattle.event_rows.specs.Rows.{row}
use Rattle.media_laws.specs.Standing.{SaysMessages}
use Rattle.agent.proofs.StandingLaws.{if_done, step_stands}
use Rattle.agent.proofs.agent.Agent.step.Goals as goal

pub returns-clause-stands : goal.returns-clause-stands
returns-clause-stands c =
    step_stands c.take.result c.args.self.now c.args.event.now c.args.sent.now.items c.take.new.sent.items c.take.new.self
    (λ answer. c.agents_stand.ensures.answers c.args.self.now c.args.event.now answer c.args.sent.now.items c.take.new.sent.items c.take.new.self c.event_comes_from_source.ensures)
    c.take.ensures.answer c.take.ensures.sends c.take.ensures.agent

pub returns-clause-said : goal.returns-clause-said
returns-clause-said c =
    if_done c.take.result (c.take.new.sent.items ≡ c.args.sent.now.items ++ (row c.args.self.now c.args.event.now).plan.sends) (SaysMessages c.args.self.now c.args.sent.now.items c.take.new.sent.items)
    (c.agents_stand.ensures.said c.args.self.now c.args.event.now c.args.sent.now.items c.take.new.sent.items c.event_comes_from_source.ensures) c.take.ensures.sends
