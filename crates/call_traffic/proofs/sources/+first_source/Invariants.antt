use Rattle.std.proofs.Common.{length}
use Rattle.call_traffic.proofs.sources.+first_source.Given as goal

abbrev pub decreases-first_source : goal.decreases-first_source
decreases-first_source l = length l.media.now
