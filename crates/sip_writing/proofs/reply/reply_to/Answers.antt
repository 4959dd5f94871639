use Rattle.sip_writing.proofs.AnswerTrip.{read_again_at}
use Rattle.sip_writing.proofs.RepliesLaws.{replies_at}
use Rattle.sip_writing.proofs.reply.reply_to.Goals as goal

pub returns-clause-replies : goal.returns-clause-replies
returns-clause-replies c = replies_at c.reply.result c.args.parts.now c.args.source c.args.status c.args.tag.now c.reply.ensures

pub returns-clause-again : goal.returns-clause-again
returns-clause-again c =
    read_again_at c.reply.result c.args.parts.now c.args.source c.args.status c.args.tag.now (record { octets = c.numbers_fit.ensures.octets; port = c.numbers_fit.ensures.port }) c.reply.ensures
