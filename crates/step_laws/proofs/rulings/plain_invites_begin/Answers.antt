use Rattle.step_laws.proofs.RequestRules.{invite_begins}
use Rattle.step_laws.proofs.rulings.plain_invites_begin.Goals as goal

pub returns : goal.returns
returns c = invite_begins
