use Rattle.std.proofs.Common.{length}
use Rattle.call_media.proofs.seats.+push_media_in_use.Given as goal

abbrev pub decreases-push_media_in_use : goal.decreases-push_media_in_use
decreases-push_media_in_use l = length l.offered.now
