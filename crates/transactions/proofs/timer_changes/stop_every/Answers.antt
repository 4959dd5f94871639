use Rattle.std.proofs.Common.{◌∙◌, ap}
use Rattle.transactions.specs.Timing.{without_kinds}
use Rattle.transactions.proofs.StopLaws.{every_stopped}
use Rattle.transactions.proofs.timer_changes.stop_every.Goals as goal

pub returns-clause-timers : goal.returns-clause-timers
returns-clause-timers c =
    c.stop_kinds.ensures.timers ∙ ap (without_kinds c.args.timers.now.timers c.args.id) c.kinds_of.ensures
    ∙ every_stopped c.args.timers.now.timers c.args.id c.args.state c.requires.lines
