-- Numbers under prints in buckets, so that a change of one moves only those of its bucket.
use Rattle.std.specs.Prelude.{ℕ, ◌%◌, ◌<◌, ◌≤◌, List, [], length, slice_index_or}
use Rattle.index.specs.Entries.{numbers_of}
use Rattle.index.specs.Numbers.{Indexed}

-- Numbers with their prints in buckets, and how many more can be put without memory. `numbers_in` says which are under
-- a print.
pub record Bucketed : Type 0 where
  pub buckets : List Indexed
  pub room : ℕ

-- how many buckets there are, once a number was put
abbrev pub bucket_count : ℕ
bucket_count = 64

-- a bucket that isn't there has no numbers
abbrev pub no_bucket : Indexed
no_bucket = record { entries = []; room = 0 }

abbrev pub bucket_at : List Indexed → ℕ → Indexed
bucket_at buckets place = slice_index_or buckets place no_bucket

-- the numbers of a print: those that the bucket at the print's remainder has under it
abbrev pub numbers_in : List Indexed → ℕ → List ℕ
numbers_in buckets print = numbers_of (bucket_at buckets (print % bucket_count)).entries print

-- each bucket takes at least this many more numbers
abbrev pub HaveRoom : ℕ → List Indexed → Type 0
HaveRoom room buckets = (place : ℕ) → place < length buckets → room ≤ (bucket_at buckets place).room
