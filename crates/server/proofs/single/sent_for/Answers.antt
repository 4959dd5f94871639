use Rattle.std.proofs.Common.{◌∙◌, ap}
use Rattle.events.specs.declared.event.Event.{Event}
use Rattle.event_rows.specs.Rows.{row}
use Rattle.server.proofs.single.sent_for.Goals as goal

pub returns-clause-sent : goal.returns-clause-sent
returns-clause-sent c = (
  c.in_ok-agent.agent,
  c.in_ok-agent.ensures.made,
  c.in_ok-sent.ensures ∙ ap (λ (e : Event). (row c.in_ok-agent.agent e).plan.sends) c.single-event.ensures,
)
