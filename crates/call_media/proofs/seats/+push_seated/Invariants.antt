use Rattle.std.proofs.Common.{length}
use Rattle.call_media.proofs.seats.+push_seated.Given as goal

abbrev pub decreases-push_seated : goal.decreases-push_seated
decreases-push_seated l = length l.media.now
