use Rattle.std.proofs.Common.{◌∙◌, ◌++◌, ◌∷◌, [], List, ap, subst, sym}
use Rattle.event_rows.specs.Trace.{Entry}
use Rattle.events.specs.declared.event.Event.{Event}
use Rattle.message_laws.specs.Datagrams.{ComesFromSource}
use Rattle.agent.proofs.SourceLaws.{puts_one}
use Rattle.agent.proofs.TraceLaws.{ran_one}
use Rattle.agent.proofs.agent.Agent.enter.Goals as goal

pub returns-clause-ran : goal.returns-clause-ran
returns-clause-ran c =
    ran_one c.args.self.now c.entry_of-entry.new.self c.args.entries.now.items c.put.new.entries.items c.args.event.now c.entry_of-entry.result
    (c.entry_of-entry.ensures.event ∙ c.in_ok-event.ensures) c.entry_of-entry.ensures.entry c.entry_of-entry.ensures.agent
    (c.put.ensures ∙ ap (λ (entries : List Entry). entries ++ c.entry_of-entry.result ∷ []) c.in_ok-reserve.ensures.items)

pub returns-clause-sources : goal.returns-clause-sources
returns-clause-sources c =
    puts_one c.args.entries.now.items c.put.new.entries.items c.entry_of-entry.result
    (c.put.ensures ∙ ap (λ (entries : List Entry). entries ++ c.entry_of-entry.result ∷ []) c.in_ok-reserve.ensures.items)
    (subst (λ (event : Event). ComesFromSource event.what) (sym (c.entry_of-entry.ensures.event ∙ c.in_ok-event.ensures)) c.event_comes_from_source.ensures)
