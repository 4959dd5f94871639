use Rattle.message_laws.proofs.sources.configuration_names_an_address.Goals as goal

pub returns : goal.returns
returns c = λ rules. record {
  rules = rules;
  source = record { octets = c.address_has_four_octets.ensures.octets; port = c.port_fits.ensures };
  four = c.address_has_four_octets.ensures.four;
}
