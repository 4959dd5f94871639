use Rattle.transactions.proofs.ShareLaws.{same_number_same_ip}
use Rattle.transactions.proofs.laws.sources_are_numbered.Goals as goal

pub returns : goal.returns
returns c = same_number_same_ip
