use Rattle.sip_writing.proofs.MessageRoundTrip.{message_reads}
use Rattle.sip_writing.proofs.laws.written_is_read.Goals as goal

pub returns : goal.returns
returns c = λ m w. message_reads m w
