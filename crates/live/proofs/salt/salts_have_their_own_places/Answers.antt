use Rattle.live.proofs.PlaceLaws.{places_differ}
use Rattle.live.proofs.salt.salts_have_their_own_places.Goals as goal

pub returns : goal.returns
returns c g m n less few = places_differ g m n less few
