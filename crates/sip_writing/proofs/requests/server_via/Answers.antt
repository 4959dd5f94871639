use Rattle.sip_writing.proofs.ServerViaTrip.{read_at}
use Rattle.sip_writing.proofs.requests.server_via.Goals as goal

pub returns-clause-read : goal.returns-clause-read
returns-clause-read c = read_at c.made_via.result c.args.server c.args.token.now (record { octets = c.numbers_fit.ensures.octets; port = c.numbers_fit.ensures.port }) c.four_octets.ensures c.made_via.ensures
