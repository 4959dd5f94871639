use Rattle.std.proofs.Common.{ℕ, ◌≡◌, ◌-◌, ◌≤◌, length}
use Rattle.index.specs.Buckets.{bucket_count, numbers_in}
use Rattle.index.proofs.buckets.make_buckets.Given as goal

abbrev pub invariant-loop-alloc : goal.invariant-loop-alloc
invariant-loop-alloc l = record {
  numbers : (print : ℕ) → numbers_in l.buckets.items print ≡ numbers_in l.fn.buckets.items print;
  most : length l.buckets.items ≤ bucket_count;
  whole : bucket_count ≤ length l.fn.buckets.items → l.buckets.items ≡ l.fn.buckets.items;
}

abbrev pub decreases-loop-alloc : goal.decreases-loop-alloc
decreases-loop-alloc l = bucket_count - l.buckets.len
