-- Pairs of ports, and the calls that hold them.
use Rattle.std.specs.Prelude.{◌≡◌, ◌==◌, ◌+◌, ◌-◌, ◌*◌, ◌%◌, ◌<◌, ◌≤◌, ◌&&◌, ℕ, Bool, false, not, nat_lt, List, [], ◌∷◌, map, filter, find, Option, Some, None, is_none, option_and_then, if◌then◌else◌}
use Rattle.std.specs.List.{list_any, range_with_len, AllPairs}
use Rattle.port_pool.specs.Limits.{min_port, last_port, rest_time}
use Rattle.port_pool.specs.declared.pair.Pair.{Pair}
use Rattle.port_pool.specs.declared.holdings.Holding.{Holding}

-- Pair k has the ports first + 2k and the one above. None is held, and none rests.
abbrev pub unheld : ℕ → ℕ → Holding
unheld first k = record { even = first + 2 * k; holder = None; freed = None }

abbrev pub unheld_pairs : ℕ → ℕ → List Holding
unheld_pairs first pairs = map (unheld first) (range_with_len 0 pairs)

-- the even port of the pair that a port would belong to
abbrev pub even_of : ℕ → ℕ
even_of port = port - port % 2

-- the holder is this call
abbrev pub is_call : ℕ → Option ℕ → Bool
is_call call None = false
is_call call (Some other) = other == call

-- the call holds the pair
abbrev pub holds : ℕ → Holding → Bool
holds call holding = is_call call holding.holder

-- the pair was freed, and less than the time of rest has passed since
abbrev pub rests_since : ℕ → Option ℕ → Bool
rests_since now None = false
rests_since now (Some freed) = nat_lt now (freed + rest_time)

abbrev pub is_resting : ℕ → Holding → Bool
is_resting now holding = rests_since now holding.freed

-- nobody holds the pair, and it does not rest
abbrev pub is_free : ℕ → Holding → Bool
is_free now holding = is_none holding.holder && not (is_resting now holding)

abbrev pub pair_of : Holding → Pair
pair_of holding = record { even = holding.even }

-- the pairs that may be given to a call at a moment, the lowest first
abbrev pub free_pairs : ℕ → List Holding → List Pair
free_pairs now holdings = map pair_of (filter (is_free now) holdings)

abbrev pub has_even : ℕ → Holding → Bool
has_even even holding = holding.even == even

-- the call that holds the pair with this even port
abbrev pub holder_of : List Holding → ℕ → Option ℕ
holder_of holdings even = option_and_then (λ s. s.holder) (find (has_even even) holdings)

-- the call that holds the pair of this port, whether even or odd
abbrev pub holder_at : List Holding → ℕ → Option ℕ
holder_at holdings port = holder_of holdings (even_of port)

-- ---- pairs that change hands

abbrev pub is_among : List Pair → ℕ → Bool
is_among pairs even = list_any (λ p. p.even == even) pairs

abbrev pub held_by : ℕ → Holding → Holding
held_by call holding = record { even = holding.even; holder = Some call; freed = holding.freed }

abbrev pub freed_at : ℕ → Holding → Holding
freed_at now holding = record { even = holding.even; holder = None; freed = Some now }

abbrev pub holding_after_taking : ℕ → List Pair → Holding → Holding
holding_after_taking call pairs holding = if is_among pairs holding.even then held_by call holding else holding

-- these pairs are the call's
abbrev pub taken : ℕ → List Pair → List Holding → List Holding
taken call pairs holdings = map (holding_after_taking call pairs) holdings

abbrev pub holding_after_release : Pair → ℕ → Holding → Holding
holding_after_release pair now holding = if has_even pair.even holding then freed_at now holding else holding

-- this pair is nobody's, and rests from now on
abbrev pub released : Pair → ℕ → List Holding → List Holding
released pair now holdings = map (holding_after_release pair now) holdings

abbrev pub holding_after_drop : ℕ → ℕ → Holding → Holding
holding_after_drop call now holding = if holds call holding then freed_at now holding else holding

-- each pair of the call is nobody's, and rests from now on
abbrev pub dropped : ℕ → ℕ → List Holding → List Holding
dropped call now holdings = map (holding_after_drop call now) holdings

-- a pair of the call that is none of these
abbrev pub is_other : ℕ → List Pair → Holding → Bool
is_other call kept holding = holds call holding && not (is_among kept holding.even)

abbrev pub holding_after_freeing_others : ℕ → List Pair → ℕ → Holding → Holding
holding_after_freeing_others call kept now holding = if is_other call kept holding then freed_at now holding else holding

-- each pair of the call except these is nobody's, and rests from now on
abbrev pub others_freed : ℕ → List Pair → ℕ → List Holding → List Holding
others_freed call kept now holdings = map (holding_after_freeing_others call kept now) holdings

-- ---- what holds of the pairs of any pool

-- a port that leads a pair: it is even, not below 1024, and there is a port above it
abbrev pub LeadsPair : ℕ → Type 0
LeadsPair even = (min_port ≤ even) × (even % 2 ≡ 0) × (even + 1 ≤ last_port)

-- each of these pairs is above all ports of those before it
abbrev pub AreRising : List Pair → Type 0
AreRising pairs = AllPairs (λ p q. p.even + 1 < q.even) pairs

-- Each pair begins at an even port, not below this one and above all ports of the pairs before it, and its odd port
-- exists.
abbrev pub PairsFrom : ℕ → List Holding → Type 0
PairsFrom least [] = Unit {0}
PairsFrom least (s ∷ ss) = (least ≤ s.even) × (s.even % 2 ≡ 0) × (s.even + 1 ≤ last_port) × PairsFrom (s.even + 2) ss

-- the pair has an odd port
abbrev pub HasOdd : Holding → Type 0
HasOdd holding = holding.even + 1 ≤ last_port

-- a pair is above all ports of each pair before it
abbrev pub PairsRise : List Holding → Type 0
PairsRise holdings = AllPairs (λ s t. s.even + 1 < t.even) holdings
