use Rattle.configuration.proofs.KeyLaws.{keep_rows, small_exact}
use Rattle.configuration.proofs.laws.laws_of_keys.Goals as goal

pub returns-clause-rows : goal.returns-clause-rows
returns-clause-rows c = keep_rows

pub returns-clause-exact : goal.returns-clause-exact
returns-clause-exact c = small_exact
