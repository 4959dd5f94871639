use Rattle.message_laws.proofs.TokenUse.WrittenRequests.{cancel_stands, refusal_ack_stands}
use Rattle.message_laws.proofs.written.cancels_are_written.Goals as goal

pub returns : goal.returns
returns c = record { cancel = cancel_stands; ack = refusal_ack_stands }
