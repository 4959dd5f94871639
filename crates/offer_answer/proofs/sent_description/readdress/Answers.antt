use Rattle.offer_answer.specs.Readdressing.{AreOfTheirSizes}
use Rattle.offer_answer.proofs.ReadBackLaws.{sent_at}
use Rattle.offer_answer.proofs.sent_description.readdress.Goals as goal

pub returns-clause-again : goal.returns-clause-again
returns-clause-again c = λ text h unicast.
    let sizes : AreOfTheirSizes c.args.origin c.args.ports.now = record { id = c.numbers_fit.ensures.id; version = c.numbers_fit.ensures.version; four = c.four_octets.ensures; octets = c.numbers_fit.ensures.octets; each_port = c.numbers_fit.ensures.ports } in
    sent_at c.readdressed_description.result text c.args.description.now c.args.origin c.args.ports.now h sizes unicast c.readdressed_description.ensures
