-- How many pairs of a pool serve, rest, and may serve.
use Rattle.std.specs.Prelude.{ℕ, Bool, ◌&&◌, List, count_by, is_none, is_some}
use Rattle.port_pool.specs.declared.holdings.Holding.{Holding}
use Rattle.port_pool.specs.declared.pair_counts.PairCounts.{PairCounts}
use Rattle.port_pool.specs.Holdings.{is_resting, is_free}

-- a call holds the pair
abbrev pub is_held : Holding → Bool
is_held holding = is_some holding.holder

-- nobody holds the pair, and it rests
abbrev pub rests_unheld : ℕ → Holding → Bool
rests_unheld now holding = is_none holding.holder && is_resting now holding

-- how many pairs calls hold, how many rest, and how many may be given to a call at a moment
abbrev pub pair_counts : ℕ → List Holding → PairCounts
pair_counts now holdings = record {
  used = count_by is_held holdings;
  resting = count_by (rests_unheld now) holdings;
  free = count_by (is_free now) holdings;
}
