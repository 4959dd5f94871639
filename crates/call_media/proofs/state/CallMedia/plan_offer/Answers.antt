use Rattle.std.proofs.Common.{◌∙◌, ap}
use Rattle.call_media.specs.declared.end.End.TheVariants.{Caller}
use Rattle.call_media.specs.Ends.{is_same}
use Rattle.call_media.specs.Sessions.{seats_kept}
use Rattle.call_media.proofs.FreshLaws.{suit}
use Rattle.call_media.proofs.state.CallMedia.plan_offer.Goals as goal

pub offer_over-requires-clause-pairs : goal.offer_over-requires-clause-pairs
offer_over-requires-clause-pairs c =
    let kept = c.in_ok-kept.ensures ∙ ap (seats_kept c.args.end) c.as_ref-session.ensures.value in
    let count = rw (c.pairs_needed-needed.ensures.count, c.as_slice.ensures, c.deref.ensures.value, kept) at c.in_ok-fresh.ensures.count in
    let is = suit c.args.self.now c.args.pool.now c.args.end (is_same c.args.end Caller) c.args.offer.now.media c.in_ok-fresh.fresh.items c.requires c.pairs_never_meet.ensures.ports count
    c.in_ok-fresh.ensures.unheld c.in_ok-fresh.ensures.ports c.in_ok-fresh.ensures.rising in
    rw (c.deref-2.ensures.value, c.deref-3.ensures.value, kept) is.do_for

pub returns-clause-ready : goal.returns-clause-ready
returns-clause-ready c =
    let kept = c.in_ok-kept.ensures ∙ ap (seats_kept c.args.end) c.as_ref-session.ensures.value in
    let count = rw (c.pairs_needed-needed.ensures.count, c.as_slice.ensures, c.deref.ensures.value, kept) at c.in_ok-fresh.ensures.count in
    let is = suit c.args.self.now c.args.pool.now c.args.end (is_same c.args.end Caller) c.args.offer.now.media c.in_ok-fresh.fresh.items c.requires c.pairs_never_meet.ensures.ports count
    c.in_ok-fresh.ensures.unheld c.in_ok-fresh.ensures.ports c.in_ok-fresh.ensures.rising in
    record {
      free = c.in_ok-fresh.ensures.free;
      unheld = c.in_ok-fresh.ensures.unheld;
      offer = c.in_ok-open.ensures.passed_on;
      own = rw (c.in_ok-open.ensures.offer, c.deref-2.ensures.value, c.deref-3.ensures.value, kept) is.own;
    }
