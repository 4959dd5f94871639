use Rattle.live_users.specs.Turns.{more, none}
use Rattle.live_users.proofs.file_thread.FileThread.run.Goals as goal

pub loop-init : goal.loop-init
loop-init g c = none

pub loop-preserved : goal.loop-preserved
loop-preserved g c = more c.loop.invariant c.turn.ensures
