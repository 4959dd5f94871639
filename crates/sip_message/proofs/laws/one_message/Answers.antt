use Rattle.sip_message.proofs.MessageLaws.{one_message}
use Rattle.sip_message.proofs.laws.one_message.Goals as goal

pub returns : goal.returns
returns c = one_message
