use Rattle.timers.proofs.Standing.{first_of_rising}
use Rattle.timers.proofs.timers.Timers.first_due.Goals as goal

pub returns-clause-due : goal.returns-clause-due
returns-clause-due g c = rw (c.first_due.ensures, ← c.self.view_is) (first_of_rising c.self.inside.timers.items c.args.now c.self.invariant.queue.rise)
