-- What a worker did from its beginning to its end: rounds, one after the other.
use Rattle.std.specs.Prelude.{◌≡◌, ◌⊎◌, ℕ, ◌+◌, ◌-◌, ◌^◌, ◌<◌, ◌≤◌, Bool, true, false, min, List, [], ◌∷◌, ◌++◌, length, slice_index_or, Some}
use Rattle.std.specs.FinMap.{get}
use Rattle.port_pool.specs.declared.hop.Hop.{Hop}
use Rattle.relay.specs.Counts.{Counted, one_more_of}
use Rattle.relay.specs.Datagrams.{Taken, Forwarded, TakesOne, forwarded}
use Rattle.relay.specs.Limits.{most_failures}
use Rattle.relay.specs.Lists.{Lists, StartsWith, table_after}
use Rattle.relay.specs.declared.serve.End.{End}
use Rattle.relay.specs.declared.serve.End.TheVariants.{Stopped, Failed}

-- the lists that a worker knows of, what its socket took and sent, what it counted, and whether the socket's last call
-- failed
pub record Media : Type 0 where
  pub lists : Lists
  pub taken : List Taken
  pub sent : List Forwarded
  pub counted : Counted
  pub failed : Bool

-- nothing is sent or counted
abbrev pub SendsNothing : Media → Media → Type 0
SendsNothing a b = (b.sent ≡ a.sent) × (b.counted ≡ a.counted)

-- nothing is sent, or what is taken is forwarded once, by a row of the table that is seen then, and is counted at its
-- port
abbrev pub SendsByRow : Media → Media → Type 0
SendsByRow a b =
    SendsNothing a b
    ⊎ ((d : Taken) × (hop : Hop) × (b.taken ≡ a.taken ++ d ∷ []) × (get (table_after b.lists) d.port ≡ Some hop) × (b.sent ≡ a.sent ++ forwarded d hop ∷ []) × (b.counted ≡ one_more_of d.port a.counted))

-- a round that succeeded took a datagram or waited; one that failed did nothing
abbrev pub Leads : Media → Media → Bool → Type 0
Leads a b true = StartsWith b.lists a.lists × SendsByRow a b × (TakesOne a.taken b.taken ⊎ (b.failed ≡ false))
Leads a b false = StartsWith b.lists a.lists × (b.taken ≡ a.taken) × SendsNothing a b × (b.failed ≡ true)

-- ---- rounds, the last of them first, each given by whether it succeeded

abbrev pub Made : Media → List Bool → Media → Type 0
Made a [] b = b ≡ a
Made a (well ∷ before) b = (mid : Media) × Made a before mid × Leads mid b well

-- how many failed in a row: one that succeeds resets the count
abbrev pub failures_after : ℕ → Bool → ℕ
failures_after failures true = 0
failures_after failures false = min (failures + 1) (2 ^ 32 - 1)

abbrev pub failures_of : List Bool → ℕ
failures_of [] = 0
failures_of (well ∷ before) = failures_after (failures_of before) well

-- none of them was the last
abbrev pub GoOn : List Bool → Type 0
GoOn [] = Unit {0}
GoOn (well ∷ before) = (failures_of (well ∷ before) < most_failures) × GoOn before

-- the last of them, and none before, was one failure too many
abbrev pub EndBy : List Bool → Type 0
EndBy [] = ⊥
EndBy (well ∷ before) = (most_failures ≤ failures_of (well ∷ before)) × GoOn before

-- ---- the end

abbrev pub EndsAt : List Bool → End → Type 0
EndsAt rounds Stopped = GoOn rounds
EndsAt rounds Failed = EndBy rounds

-- these rounds were made, and they ended so
pub record Ran (a b : Media) (end : End) : Type 0 where
  pub rounds : List Bool
  pub made : Made a rounds b
  pub ends : EndsAt rounds end

-- each worker ran, from what it was to what it is
abbrev pub EachRan : {W : Type 0} → (W → Media) → List W → List W → Type 0
EachRan media before after = (i : ℕ) (d : _) → i < length before → (end : End) × Ran (media (slice_index_or before i d)) (media (slice_index_or after i d)) end
