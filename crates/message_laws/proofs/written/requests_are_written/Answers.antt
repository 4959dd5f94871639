use Rattle.message_laws.proofs.TokenUse.WrittenRequests.{ack_stands, bye_stands, offer_stands}
use Rattle.message_laws.proofs.written.requests_are_written.Goals as goal

pub returns : goal.returns
returns c = record { offer = offer_stands; ack = ack_stands; bye = bye_stands }
