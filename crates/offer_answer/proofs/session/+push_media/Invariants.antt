use Rattle.std.proofs.Common.{length}
use Rattle.offer_answer.proofs.session.+push_media.Given as goal

-- fewer media each time
abbrev pub decreases-push_media : goal.decreases-push_media
decreases-push_media l = length l.offered.now
