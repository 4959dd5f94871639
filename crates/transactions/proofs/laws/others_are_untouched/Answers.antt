use Rattle.transactions.proofs.UntouchedLaws.{untouched}
use Rattle.transactions.proofs.laws.others_are_untouched.Goals as goal

pub returns : goal.returns
returns c = untouched
