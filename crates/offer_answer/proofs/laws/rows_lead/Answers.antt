use Rattle.offer_answer.proofs.PairLaws as lemmas
use Rattle.offer_answer.proofs.laws.rows_lead.Goals as goal

pub returns : goal.returns
returns c = lemmas.rows_lead
