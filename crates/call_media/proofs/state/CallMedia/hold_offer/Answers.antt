use Rattle.std.proofs.Common.{ap}
use Rattle.call_media.proofs.ServeLaws.{serves_with_offer}
use Rattle.call_media.proofs.SpareLaws.{taken_spares}
use Rattle.call_media.proofs.state.CallMedia.hold_offer.Goals as goal

pub returns-clause-serves : goal.returns-clause-serves
returns-clause-serves c =
    let taken = rw c.deref.ensures.value at c.hold.ensures.holder in
    rw (c.one_more_to-self.ensures, c.replace.ensures.after, c.other.ensures)
    (serves_with_offer c.args.self.now c.args.pool.now c.hold.new.self c.args.now c.args.planned c.requires.serves c.requires.ready taken
    (ap (λ p. p.rows) c.hold.ensures.pool) c.pairs_never_meet.ensures.rows)

pub returns-clause-spares : goal.returns-clause-spares
returns-clause-spares c =
    let taken = rw c.deref.ensures.value at c.hold.ensures.holder in
    taken_spares c.args.self.now.number c.args.planned.fresh.items c.args.pool.now c.hold.new.self taken (ap (λ p. p.rows) c.hold.ensures.pool) c.requires.ready.unheld
