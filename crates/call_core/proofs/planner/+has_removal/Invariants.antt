use Rattle.std.proofs.Common.{length}
use Rattle.call_core.proofs.planner.+has_removal.Given as goal

abbrev pub decreases-has_removal : goal.decreases-has_removal
decreases-has_removal l = length l.actions.now
