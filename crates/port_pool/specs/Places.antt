-- The places of the pool: which pairs each call holds.
use Rattle.std.specs.Prelude.{◌≡◌, ℕ, ◌≤◌, Bool, true, not, ◌&&◌, List, [], ◌∷◌, length, filter, Some, None, is_none, if◌then◌else◌}
use Prim.Native.Nat.{zero, suc}
use Rattle.std.specs.Coded.{Coded, coded_list}
use Rattle.index.specs.Entries.{numbers_of}
use Rattle.index.specs.Numbers.{Indexed}
use Rattle.index.specs.Passing.{numbers_from}
use Rattle.port_pool.specs.declared.pair.Pair.{Pair}
use Rattle.port_pool.specs.declared.holdings.Holding.{Holding}
use Rattle.port_pool.specs.Limits.{min_port}
use Rattle.port_pool.specs.Holdings.{holds, is_other, PairsFrom}
use Rattle.port_pool.specs.Pool.{coded_holding}

abbrev pub coded_holdings : Coded (List Holding)
coded_holdings = coded_list coded_holding

-- the holding given if a list has none
abbrev pub no_holding : Holding
no_holding = record { even = 0; holder = None; freed = None }

abbrev pub is_unheld : Holding → Bool
is_unheld holding = is_none holding.holder

-- the places of the pairs that a call holds, the least first, if the first place has the number n
abbrev pub places_of : ℕ → ℕ → List Holding → List ℕ
places_of call n holdings = numbers_from (holds call) n holdings

-- from the kth pair of a call on, all are kept
abbrev pub kept_from : ℕ → List Pair → ℕ → List Holding → Bool
kept_from call kept k [] = true
kept_from call kept zero (s ∷ ss) = not (is_other call kept s) && kept_from call kept zero ss
kept_from call kept (suc k) (s ∷ ss) = if holds call s then kept_from call kept k ss else kept_from call kept (suc k) ss

-- ---- what is done at a place

-- the holding at a place is changed
abbrev pub at_place : ℕ → (Holding → Holding) → List Holding → List Holding
at_place i change [] = []
at_place zero change (s ∷ ss) = change s ∷ ss
at_place (suc i) change (s ∷ ss) = s ∷ at_place i change ss

-- nobody holds the pair
abbrev pub vacated : Holding → Holding
vacated holding = record { even = holding.even; holder = None; freed = holding.freed }

-- the pair was freed at this moment
abbrev pub resting_from : ℕ → Holding → Holding
resting_from now holding = record { even = holding.even; holder = holding.holder; freed = Some now }

-- ---- what holds of the places of any pool

-- Pairs rise. Under each call are the places of the pairs that it holds, and of no other; each pair that nobody holds
-- can be put under a call without memory.
pub record IsIndexed (holdings : List Holding) (calls : Indexed) : Type 0 where
  pub rising : PairsFrom min_port holdings
  pub by_call : (call : ℕ) → numbers_of calls.entries call ≡ places_of call 0 holdings
  pub room : length (filter is_unheld holdings) ≤ calls.room
