use Rattle.timers.proofs.Standing.{queue_without}
use Rattle.timers.proofs.plain.Timers.cancel.Goals as goal

pub invariant_of-self : goal.invariant_of-self
invariant_of-self g c = rw c.remove_key.ensures.others (queue_without g.K.PartialEq.eq g.met.K.Eq.laws c.self.inside.timers.items c.args.key c.self.invariant)
