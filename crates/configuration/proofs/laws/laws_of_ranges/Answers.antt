use Rattle.configuration.proofs.RangeLaws.{holds}
use Rattle.configuration.proofs.laws.laws_of_ranges.Goals as goal

pub returns : goal.returns
returns c = record { holds = holds }
