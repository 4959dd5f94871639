use Rattle.message_laws.proofs.bodies.address_has_four_octets.Goals as goal

pub returns : goal.returns
returns c = record { four = c.four_octets.ensures; octets = c.octets_fit.ensures }
