use Rattle.std.proofs.Common.{◌≡◌, ◌≤◌, ℕ, drop, length}
use Rattle.index.specs.Entries.{numbers_of}
use Rattle.registrar.specs.Entries.{places_of}
use Rattle.registrar.proofs.entries.index_of.Given as goal

abbrev pub invariant-loop-left : goal.invariant-loop-left
invariant-loop-left l = record {
  within : l.left ≤ length l.users;
  room : l.left ≤ l.names.room;
  indexed : (print : ℕ) → numbers_of l.names.entries print ≡ places_of l.key print l.left (drop l.left l.users);
}

abbrev pub decreases-loop-left : goal.decreases-loop-left
decreases-loop-left l = l.left
