use Rattle.message_laws.proofs.Askers.AskerKnown.{after_kept}
use Rattle.message_laws.proofs.datagrams.open_offers_keep_their_requests.Goals as goal

pub returns : goal.returns
returns c = after_kept c.bodies_describe.ensures
