-- The pool: pairs, the calls that hold them, and the rows of these calls.
use Rattle.std.specs.Prelude.{◌≡◌, ◌≢◌, ◌⊎◌, ◌==◌, ◌+◌, ◌<◌, ℕ, Bool, true, false, List, [], ◌∷◌, All, take, length, find, Option, Some, None, is_some, option_and_then, refl, if◌then◌else◌}
use Rattle.std.specs.List.{flat_map, AllPairs}
use Rattle.std.specs.FinMap.{get, empty}
use Rattle.std.specs.Coded.{Coded, code_by, coded×, coded_ℕ, coded_list, coded_option}
use Rattle.port_pool.specs.declared.hop.Hop.{Hop}
use Rattle.port_pool.specs.declared.changes.Change.{Change}
use Rattle.port_pool.specs.declared.pair.Pair.{Pair}
use Rattle.port_pool.specs.declared.relay_line.RelayLine.{RelayLine}
use Rattle.port_pool.specs.declared.error.PoolError.{PoolError}
use Rattle.port_pool.specs.declared.error.PoolError.TheVariants.{OutOfMemory, TooFew, NotHeld}
use Rattle.port_pool.specs.declared.holdings.Holding.{Holding}
use Rattle.port_pool.specs.RelayTable.{Rows, coded_rows, changed_by}
use Rattle.port_pool.specs.Limits.{min_port, rest_time}
use Rattle.port_pool.specs.Changes.{port_of, changes_between}
use Rattle.port_pool.specs.Holdings.{unheld_pairs, is_call, is_among, even_of, holds, free_pairs, holder_of, holder_at, taken, released, dropped, others_freed, PairsFrom}

-- The pairs by rising port, each with the call that holds it, if any, and the moment at which it was last freed; and
-- also the relay table.
pub record Contents : Type 0 where
  pub holdings : List Holding
  pub rows : Rows

abbrev pub coded_holding : Coded Holding
coded_holding = code_by (ℕ × (Option ℕ × Option ℕ)) (coded× coded_ℕ (coded× (coded_option coded_ℕ) (coded_option coded_ℕ))) (λ s. (s.even, (s.holder, s.freed))) (λ p. record { even = p.0; holder = p.1.0; freed = p.1.1 }) (λ _. refl)

abbrev pub coded_contents : Coded Contents
coded_contents = code_by (List Holding × Rows) (coded× (coded_list coded_holding) coded_rows) (λ c. (c.holdings, c.rows)) (λ p. record { holdings = p.0; rows = p.1 }) (λ _. refl)

-- no pair is held, and no port has a row
abbrev pub new_pool : ℕ → ℕ → Contents
new_pool first pairs = record { holdings = unheld_pairs first pairs; rows = empty }

-- ---- pairs

-- the n lowest pairs that are free at a moment
abbrev pub lowest_free : Contents → ℕ → ℕ → List Pair
lowest_free pool now n = take n (free_pairs now pool.holdings)

-- any other pair that is free is above each of these
abbrev pub AreLowestFree : Contents → ℕ → List Pair → Type 0
AreLowestFree pool now pairs = (even : ℕ) → is_among (free_pairs now pool.holdings) even ≡ true → is_among pairs even ≡ false
    → All (λ p. p.even < even) pairs

-- each of these pairs is free at a moment
abbrev pub AreFree : Contents → ℕ → List Pair → Type 0
AreFree pool now pairs = All (λ p. is_among (free_pairs now pool.holdings) p.even ≡ true) pairs

-- the call has these pairs, too
abbrev pub with_pairs : Contents → ℕ → List Pair → Contents
with_pairs pool call pairs = record { holdings = taken call pairs pool.holdings; rows = pool.rows }

-- the call has the n lowest free pairs, too
abbrev pub reserved : Contents → ℕ → ℕ → ℕ → Contents
reserved pool call n now = with_pairs pool call (lowest_free pool now n)

-- the pair is nobody's
abbrev pub freed : Contents → Pair → ℕ → Contents
freed pool pair now = record { holdings = released pair now pool.holdings; rows = pool.rows }

-- the pair serves nobody until the time of rest has passed since this moment
abbrev pub RestsFrom : Contents → ℕ → ℕ → Type 0
RestsFrom pool even now = (moment : ℕ) → moment < now + rest_time → is_among (free_pairs moment pool.holdings) even ≡ false

-- the call holds only these pairs, if it held them
abbrev pub without_others : Contents → ℕ → List Pair → ℕ → Contents
without_others pool call kept now = record { holdings = others_freed call kept now pool.holdings; rows = pool.rows }

-- why a call gets no pairs
abbrev pub RefusesReserve : Contents → ℕ → ℕ → PoolError → Type 0
RefusesReserve pool n now OutOfMemory = Unit {0}
RefusesReserve pool n now TooFew = length (free_pairs now pool.holdings) < n
RefusesReserve pool n now NotHeld = ⊥

-- why a pair is not freed
abbrev pub RefusesRelease : Contents → ℕ → Pair → PoolError → Type 0
RefusesRelease pool call pair OutOfMemory = ⊥
RefusesRelease pool call pair TooFew = ⊥
RefusesRelease pool call pair NotHeld = holder_of pool.holdings pair.even ≢ Some call

-- ---- rows

-- the port belongs to a pair of the call
abbrev pub is_port_of : Contents → ℕ → ℕ → Bool
is_port_of pool call port = is_call call (holder_at pool.holdings port)

-- no port of the pair has a row
abbrev pub HasNoRow : Contents → Pair → Type 0
HasNoRow pool pair = (get pool.rows pair.even ≡ None) × (get pool.rows (pair.even + 1) ≡ None)

-- the lines are all of ports of the call's pairs
abbrev pub AreOwn : Contents → ℕ → List RelayLine → Type 0
AreOwn pool call lines = All (λ l. holder_at pool.holdings l.port ≡ Some call) lines

-- no port occurs in two lines
abbrev pub StandOnce : List RelayLine → Type 0
StandOnce lines = AllPairs (λ a b. a.port ≢ b.port) lines

-- the row that these lines have for a port
abbrev pub hop_of : List RelayLine → ℕ → Option Hop
hop_of lines port = option_and_then (λ l. l.hop) (find (λ l. l.port == port) lines)

-- a port of the call has what the lines say, and any other port its old row
abbrev pub row_after : Contents → ℕ → List RelayLine → ℕ → Option Hop
row_after pool call lines port = if is_port_of pool call port then hop_of lines port else get pool.rows port

abbrev pub ports_of_holding : ℕ → Holding → List ℕ
ports_of_holding call holding = if holds call holding then holding.even ∷ (holding.even + 1) ∷ [] else []

-- the ports of the call's pairs, which rise
abbrev pub ports_of : ℕ → List Holding → List ℕ
ports_of call holdings = flat_map (ports_of_holding call) holdings

abbrev pub changes_of_port : Rows → List RelayLine → ℕ → List Change
changes_of_port rows lines port = changes_between port (get rows port) (hop_of lines port)

-- what leads to the rows of these lines at each port of the call
abbrev pub changes_of : Contents → ℕ → List RelayLine → List Change
changes_of pool call lines = flat_map (changes_of_port pool.rows lines) (ports_of call pool.holdings)

-- a call holds the pair of each port that changes
abbrev pub AreHeld : Contents → List Change → Type 0
AreHeld pool changes = All (λ c. is_some (holder_at pool.holdings (port_of c)) ≡ true) changes

-- the rows after these changes
abbrev pub with_changes : Contents → List Change → Contents
with_changes pool changes = record { holdings = pool.holdings; rows = changed_by pool.rows changes }

-- the rows of these lines replace the call's former ones
abbrev pub committed : Contents → ℕ → List RelayLine → Contents
committed pool call lines = with_changes pool (changes_of pool call lines)

-- the call holds no pair and has no row
abbrev pub without_call : Contents → ℕ → ℕ → Contents
without_call pool call now = record { holdings = dropped call now pool.holdings; rows = (committed pool call []).rows }

-- no port of the call has a row except those of these pairs
abbrev pub AreBareBut : Contents → ℕ → List Pair → Type 0
AreBareBut pool call kept = (port : ℕ) → is_port_of pool call port ≡ true → is_among kept (even_of port) ≡ false → get pool.rows port ≡ None

-- ---- what holds of any pool

-- a port that has a row belongs to a pair that a call holds
abbrev pub RowsAreHeld : Contents → Type 0
RowsAreHeld pool = (port : ℕ) → is_some (get pool.rows port) ≡ true → is_some (holder_at pool.holdings port) ≡ true

pub record IsPool (pool : Contents) : Type 0 where
  pub pairs : PairsFrom min_port pool.holdings
  pub held : RowsAreHeld pool

abbrev pub IsPortOfPair : Pair → ℕ → Type 0
IsPortOfPair pair port = (port ≡ pair.even) ⊎ (port ≡ pair.even + 1)

-- pairs that meet in a port have one holder
abbrev pub NeverMeet : Contents → Type 0
NeverMeet pool = (a b : Pair) (port call other : ℕ) → IsPortOfPair a port → IsPortOfPair b port
    → holder_of pool.holdings a.even ≡ Some call → holder_of pool.holdings b.even ≡ Some other → call ≡ other
