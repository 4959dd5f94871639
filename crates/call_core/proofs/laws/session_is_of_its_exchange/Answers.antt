use Rattle.call_core.proofs.SessionLaws.{fit_sets, no_other_makes}
use Rattle.call_core.proofs.laws.session_is_of_its_exchange.Goals as goal

pub returns-clause-fit : goal.returns-clause-fit
returns-clause-fit c = fit_sets

pub returns-clause-other : goal.returns-clause-other
returns-clause-other c = no_other_makes
