use Rattle.std.proofs.Common.{is_some, refl}
use Rattle.transactions.proofs.FireLaws.{fireable_carried}
use Rattle.transactions.proofs.LastingLaws.{sides_kept}
use Rattle.transactions.proofs.StopLaws.{lines_of}
use Rattle.transactions.proofs.apply.carry_out.Goals as goal

pub returns-clause-fireable : goal.returns-clause-fireable
returns-clause-fireable c =
    fireable_carried c.args.places.now.slots c.write.new.self.slots c.args.timers.now.timers c.args.timers.now.timers c.stop.new.timers.timers c.set_all.new.timers.timers
    c.args.id c.args.step c.args.fresh c.args.now c.requires.fireable c.requires.there c.requires.follows
    c.write.ensures.slots refl c.stop.ensures.timers c.set_all.ensures.timers

pub stop-requires : goal.stop-requires
stop-requires c = record {
  lines = lines_of c.args.places.now.slots c.args.timers.now.timers c.args.id c.args.state c.requires.fireable c.requires.state;
}

pub write-requires-clause-side : goal.write-requires-clause-side
write-requires-clause-side c = sides_kept c.args.places.now.slots c.args.id (is_some c.args.fresh) c.args.step c.requires.follows
