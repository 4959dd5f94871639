use Rattle.offer_answer.proofs.ReadBackLaws as lemmas
use Rattle.offer_answer.proofs.laws.sent_is_read.Goals as goal

pub returns : goal.returns
returns c = lemmas.sent_is_read
