use Rattle.std.proofs.Common.{ap}
use Rattle.call_media.proofs.ServeLaws.{serves_without_offer}
use Rattle.call_media.proofs.SpareLaws.{left_spares}
use Rattle.call_media.specs.Sessions.{pairs_listed}
use Rattle.call_media.proofs.state.CallMedia.withdraw_offer.Goals as goal

pub returns-clause-serves : goal.returns-clause-serves
returns-clause-serves c =
    let left = rw (c.pairs_listed.ensures, c.as_ref.ensures.value) at c.free_others.ensures.holder in
    rw c.take.ensures.after
    (serves_without_offer c.args.self.now c.args.pool.now c.free_others.new.self c.requires.serves left (ap (λ p. p.rows) c.free_others.ensures.pool))

pub returns-clause-spares : goal.returns-clause-spares
returns-clause-spares c =
    let left = rw (c.pairs_listed.ensures, c.as_ref.ensures.value) at c.free_others.ensures.holder in
    left_spares c.args.self.now.number (pairs_listed c.args.self.now.session) c.args.pool.now c.free_others.new.self left (ap (λ p. p.rows) c.free_others.ensures.pool)
