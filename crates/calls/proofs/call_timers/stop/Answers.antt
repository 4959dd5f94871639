use Rattle.std.proofs.Common.{◌∙◌}
use Rattle.calls.proofs.TimingLaws.{without_agree}
use Rattle.calls.proofs.call_timers.stop.Goals as goal

pub returns-clause-timers : goal.returns-clause-timers
returns-clause-timers c = c.cancel.ensures.timers ∙ without_agree c.args.timers.now.timers c.args.id
