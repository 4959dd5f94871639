use Rattle.timers.proofs.Standing.{queue_without, queue_set}
use Rattle.timers.proofs.plain.Timers.set.Goals as goal

pub put-requires-clause-rise : goal.put-requires-clause-rise
put-requires-clause-rise g c = rw (c.remove_key.ensures.others, c.make_room.ensures.items) (queue_without g.K.PartialEq.eq g.met.K.Eq.laws c.self.inside.timers.items c.args.key c.self.invariant).rise

pub invariant_of-self-2 : goal.invariant_of-self-2
invariant_of-self-2 g c = rw (c.put.ensures.put, c.remove_key.ensures.others, c.make_room.ensures.items) (queue_set g.K.PartialEq.eq g.met.K.Eq.laws c.self.inside.timers.items c.args.key c.args.at c.self.invariant)
