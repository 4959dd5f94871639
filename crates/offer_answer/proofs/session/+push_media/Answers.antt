use Rattle.std.proofs.Common.{rules}
use Rattle.offer_answer.proofs.SessionLaws.{above_behind}
use Rattle.offer_answer.proofs.session.+push_media.Goals as goal

pub push_media-requires : goal.push_media-requires
push_media-requires t c = (
  search rules,
  above_behind c.args.offered.now c.args.answers_sent.now c.args.offers_sent.now c.args.answered.now
      c.in-len1-up.len_at_least c.in-len1-up-answers_sent.len_at_least c.in-len1-up-offers_sent.len_at_least c.in-len1-up-answered.len_at_least c.requires,
)
