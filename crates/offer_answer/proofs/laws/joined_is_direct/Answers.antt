use Rattle.offer_answer.proofs.Joining as lemmas
use Rattle.offer_answer.proofs.laws.joined_is_direct.Goals as goal

pub returns : goal.returns
returns c = lemmas.joined_is_direct
