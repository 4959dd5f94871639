use Rattle.offer_answer.proofs.RelayLaws as lemmas
use Rattle.offer_answer.proofs.laws.relayed_is_direct.Goals as goal

pub returns : goal.returns
returns c = lemmas.relayed_is_direct
