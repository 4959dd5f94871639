use Rattle.std.proofs.Common.{length}
use Rattle.offer_answer.proofs.session.+push_all_named.Given as goal

-- fewer media each time
abbrev pub decreases-push_all_named : goal.decreases-push_all_named
decreases-push_all_named l = length l.offered.now
