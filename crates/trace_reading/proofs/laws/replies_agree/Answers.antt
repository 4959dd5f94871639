use Rattle.trace_reading.proofs.ReplyLaws.{replies_both, written_replies}
use Rattle.trace_reading.proofs.laws.replies_agree.Goals as goal

pub returns-clause-read : goal.returns-clause-read
returns-clause-read c = replies_both

pub returns-clause-written : goal.returns-clause-written
returns-clause-written c = written_replies
