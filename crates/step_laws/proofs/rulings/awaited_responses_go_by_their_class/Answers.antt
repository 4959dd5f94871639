use Rattle.step_laws.proofs.ResponseRules.{goes_by_class}
use Rattle.step_laws.proofs.rulings.awaited_responses_go_by_their_class.Goals as goal

pub returns : goal.returns
returns c = goes_by_class
