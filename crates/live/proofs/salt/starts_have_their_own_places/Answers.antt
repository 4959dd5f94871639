use Rattle.live.proofs.PlaceLaws.{starts_differ}
use Rattle.live.proofs.salt.starts_have_their_own_places.Goals as goal

pub returns : goal.returns
returns c key a b m n other few few_there same = starts_differ key a b m n other few few_there same
