use Rattle.message_laws.proofs.Messages.BodyCalls.{call_known, first_known}
use Rattle.message_laws.proofs.Messages.ReadBack.{offer_back, reads_back, session_back}
use Rattle.message_laws.proofs.Messages.WrittenLengths.{written_short}
use Rattle.message_laws.proofs.bodies.descriptions_read_back.Goals as goal

pub returns-clause-call : goal.returns-clause-call
returns-clause-call c = λ ip call input pool now server known pairs read. call_known ip server call known pool pairs now input read

pub returns-clause-first : goal.returns-clause-first
returns-clause-first c = λ ip call offer pool now server known pairs read. first_known ip server call known pool pairs now offer read

pub returns-clause-back : goal.returns-clause-back
returns-clause-back c = reads_back c.sent_is_read.ensures

pub returns-clause-offer : goal.returns-clause-offer
returns-clause-offer c = offer_back c.sent_is_read.ensures

pub returns-clause-session : goal.returns-clause-session
returns-clause-session c = session_back c.sent_is_read.ensures

pub returns-clause-short : goal.returns-clause-short
returns-clause-short c = written_short
