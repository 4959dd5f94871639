use Rattle.std.proofs.Common.{length}
use Rattle.note_lines.proofs.holds.+any_goes_both_ways.Given as goal

-- fewer media each time
abbrev pub decreases-any_goes_both_ways : goal.decreases-any_goes_both_ways
decreases-any_goes_both_ways l = length l.offered.now
