use Rattle.message_laws.proofs.sources.address_fits.Goals as goal

pub returns : goal.returns
returns c = record { octets = c.octets_fit.ensures; port = c.port_fits.ensures }
