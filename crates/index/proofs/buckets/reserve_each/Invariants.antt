use Rattle.std.proofs.Common.{ℕ, ◌≡◌, ◌-◌, ◌<◌, ◌≤◌, length}
use Rattle.index.specs.Buckets.{bucket_at}
use Rattle.index.proofs.buckets.reserve_each.Given as goal

abbrev pub invariant-loop-place : goal.invariant-loop-place
invariant-loop-place l = record {
  entries : (place : ℕ) → (bucket_at l.buckets.items place).entries ≡ (bucket_at l.fn.buckets.items place).entries;
  len : length l.buckets.items ≡ length l.fn.buckets.items;
  room : (place : ℕ) → (bucket_at l.fn.buckets.items place).room ≤ (bucket_at l.buckets.items place).room;
  done : (place : ℕ) → place < l.place → l.n ≤ (bucket_at l.buckets.items place).room;
}

abbrev pub decreases-loop-place : goal.decreases-loop-place
decreases-loop-place l = l.buckets.len - l.place
