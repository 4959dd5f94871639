use Rattle.std.proofs.Common.{◌≡◌, take}
use Rattle.server.specs.Replay.{after_all, WritesRun}
use Rattle.server.proofs.day.play.Given as goal

-- the agent is the one after the events so far, and their text is written
abbrev pub invariant-loop-event : goal.invariant-loop-event
invariant-loop-event g l = record {
  agent : l.agent ≡ after_all l.fn.agent (take l.event-index l.events);
  written : WritesRun l.notes l.fn.agent (take l.event-index l.events) (g.W.Write.contents l.fn.writer) (g.W.Write.contents l.writer);
}
