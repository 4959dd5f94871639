use Rattle.sdp.proofs.GrammarLaws.{one_description}
use Rattle.sdp.proofs.laws.one_description.Goals as goal

pub returns : goal.returns
returns c = one_description
