use Rattle.std.proofs.Common.{length}
use Rattle.call_core.proofs.planner.+has_release.Given as goal

abbrev pub decreases-has_release : goal.decreases-has_release
decreases-has_release l = length l.actions.now
