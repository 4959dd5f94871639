use Rattle.std.proofs.Common.{length}
use Rattle.call_media.proofs.seats.+pairs_needed.Given as goal

abbrev pub decreases-pairs_needed : goal.decreases-pairs_needed
decreases-pairs_needed l = length l.media.now
