use Rattle.sip_writing.proofs.RequestTrip.{written_at}
use Rattle.sip_writing.proofs.requests.build_request.Goals as goal

pub returns-clause-written : goal.returns-clause-written
returns-clause-written c = written_at c.request_of.result c.args.draft.now c.hops_fit.ensures c.request_of.ensures
