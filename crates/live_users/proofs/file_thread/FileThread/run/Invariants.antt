use Rattle.live_users.specs.Turns.{Turns}
use Rattle.live_users.proofs.file_thread.FileThread.run.Given as goal

-- the turns so far
abbrev pub invariant-loop : goal.invariant-loop
invariant-loop g l = Turns l.fn.self l.self
