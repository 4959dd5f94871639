use Rattle.std.proofs.Common.{rules}
use Rattle.relay.proofs.Counting.{sits}
use Rattle.relay.proofs.counts.Counter.reader.Goals as goal

pub load_new_seat-seat-requires : goal.load_new_seat-seat-requires
load_new_seat-seat-requires c = (search rules, sits _ _)
