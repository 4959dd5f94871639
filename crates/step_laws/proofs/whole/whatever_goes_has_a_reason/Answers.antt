use Rattle.step_laws.proofs.WholeEvents.{reason}
use Rattle.step_laws.proofs.whole.whatever_goes_has_a_reason.Goals as goal

pub returns : goal.returns
returns c = reason
