use Rattle.std.proofs.Common.{◌≡◌, ◌++◌, false, reverse}
use Rattle.std.specs.Prelude.{vec_len}
use Rattle.sockets.proofs.ready.Ready.take.Given as goal

-- what was read and what is left are what there was, and no receive failed
abbrev pub invariant-loop-place : goal.invariant-loop-place
invariant-loop-place l = record {
  turns : l.self.reads.entries ++ reverse l.self.places.items ≡ l.fn.self.reads.entries ++ reverse l.fn.self.places.items;
  waited : l.self.waiter.waited.entries ≡ l.fn.self.waiter.waited.entries;
  failed : l.last.failed ≡ false;
}

abbrev pub decreases-loop-place : goal.decreases-loop-place
decreases-loop-place l = vec_len l.self.places
