use Rattle.std.proofs.Common.{take}
use Rattle.event_rows.specs.Trace.{Ran}
use Rattle.media_laws.specs.Standing.{PutsFromSource}
use Rattle.agent.proofs.agent.Agent.run_in.Given as goal

-- the events so far were entered, each from an address
abbrev pub invariant-loop-event : goal.invariant-loop-event
invariant-loop-event l = Ran l.fn.self l.fn.entries.items (take l.event-index l.events) l.self l.entries.items × PutsFromSource l.fn.entries.items l.entries.items
