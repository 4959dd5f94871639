use Rattle.timers.proofs.Standing.{next_of_rising}
use Rattle.timers.proofs.timers.Timers.next.Goals as goal

pub returns-clause-least : goal.returns-clause-least
returns-clause-least g c = rw (c.least_moment.ensures, ← c.self.view_is) (next_of_rising c.self.inside.timers.items c.self.invariant.queue.rise)
