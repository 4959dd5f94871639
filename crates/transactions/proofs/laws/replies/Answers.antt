use Rattle.transactions.proofs.ReplyLaws.{reply_decides, replies_where_taken, written_replies}
use Rattle.transactions.proofs.laws.replies.Goals as goal

pub returns-clause-reply : goal.returns-clause-reply
returns-clause-reply c = λ response request. reply_decides response request

pub returns-clause-taken : goal.returns-clause-taken
returns-clause-taken c = λ table response. replies_where_taken table response

pub returns-clause-written : goal.returns-clause-written
returns-clause-written c = λ response request status tag. written_replies response request status tag
