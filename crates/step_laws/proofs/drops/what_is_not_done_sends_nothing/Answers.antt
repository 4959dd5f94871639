use Rattle.step_laws.proofs.ReplyRows.{uncounted}
use Rattle.step_laws.proofs.drops.what_is_not_done_sends_nothing.Goals as goal

pub returns : goal.returns
returns c = uncounted
