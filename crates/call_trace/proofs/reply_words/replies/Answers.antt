use Rattle.std.proofs.lemmas.Bool.Decides.{Decides-at}
use Rattle.call_trace.proofs.MessageTests.{decides_replies}
use Rattle.call_trace.proofs.reply_words.replies.Goals as goal

pub returns : goal.returns
returns c = Decides-at _ _ c.is_reply.ensures (decides_replies c.args.response.now c.args.request.now)
