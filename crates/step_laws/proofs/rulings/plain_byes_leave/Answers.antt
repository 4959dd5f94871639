use Rattle.step_laws.proofs.RequestRules.{bye_leaves}
use Rattle.step_laws.proofs.rulings.plain_byes_leave.Goals as goal

pub returns : goal.returns
returns c = bye_leaves
