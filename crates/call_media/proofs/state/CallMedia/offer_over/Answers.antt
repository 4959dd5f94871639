use Rattle.std.proofs.Common.{refl}
use Rattle.call_media.specs.declared.end.End.TheVariants.{Caller}
use Rattle.call_media.specs.Ends.{is_same}
use Rattle.call_media.specs.Seats.{seated}
use Rattle.call_media.proofs.SeatLaws.{each_seated}
use Rattle.call_media.proofs.ServeLaws.{offer_ports, offer_ports_there}
use Rattle.call_media.proofs.state.CallMedia.offer_over.Goals as goal

pub readdress-requires-clause-one_each : goal.readdress-requires-clause-one_each
readdress-requires-clause-one_each c =
    let media = c.args.offer.now.media in
    let seats = seated (is_same c.args.end Caller) media c.args.kept.now c.args.fresh.now in
    rw (c.deref-2.ensures.value, c.in_ok-ports.ensures, c.deref.ensures.value, c.in_ok-seats.ensures, c.is_caller.ensures, c.as_slice-media.ensures)
    (offer_ports_there media seats (each_seated (is_same c.args.end Caller) media c.args.kept.now c.args.fresh.now c.requires.pairs.enough))

pub readdress-requires-clause-not_zero : goal.readdress-requires-clause-not_zero
readdress-requires-clause-not_zero c =
    let media = c.args.offer.now.media in
    let seats = seated (is_same c.args.end Caller) media c.args.kept.now c.args.fresh.now in
    rw (c.deref-2.ensures.value, c.in_ok-ports.ensures, c.deref.ensures.value, c.in_ok-seats.ensures, c.is_caller.ensures, c.as_slice-media.ensures)
    (offer_ports media seats (each_seated (is_same c.args.end Caller) media c.args.kept.now c.args.fresh.now c.requires.pairs.enough) c.requires.pairs.ports)

pub returns-clause-offer : goal.returns-clause-offer
returns-clause-offer c =
    rw (c.from_vec.ensures, c.in_ok-offer_taken.ensures, c.in_ok-taken.ensures, c.in_ok-offer_sent.ensures, c.in_ok-sent.ensures.exact, c.deref-2.ensures.value, c.in_ok-ports.ensures, c.deref.ensures.value, c.in_ok-seats.ensures, c.is_caller.ensures, c.as_slice-media.ensures, c.origin-origin.ensures, c.other.ensures)
    refl

pub returns-clause-passed_on : goal.returns-clause-passed_on
returns-clause-passed_on c =
    let media = c.args.offer.now.media in
    let told = rw (c.deref-2.ensures.value, c.in_ok-ports.ensures, c.deref.ensures.value, c.in_ok-seats.ensures, c.is_caller.ensures, c.as_slice-media.ensures) at c.in_ok-sent.ensures.ports in
    let at_server = rw c.origin-origin.ensures at c.in_ok-sent.ensures.addresses in
    rw (c.from_vec.ensures, c.in_ok-offer_taken.ensures, c.in_ok-taken.ensures, c.in_ok-offer_sent.ensures, c.in_ok-seats.ensures, c.is_caller.ensures, c.as_slice-media.ensures)
    (record {
      alike = c.in_ok-sent.ensures.alike;
      at_server = at_server;
      told = told;
      each_seated = each_seated (is_same c.args.end Caller) media c.args.kept.now c.args.fresh.now c.requires.pairs.enough;
      distinct = c.requires.pairs.distinct;
    })
