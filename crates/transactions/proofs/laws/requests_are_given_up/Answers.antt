use Rattle.transactions.proofs.WaitLaws.{gives_up}
use Rattle.transactions.proofs.laws.requests_are_given_up.Goals as goal

pub returns : goal.returns
returns c = λ table request to now. gives_up table request to now
