-- The changes that lead from one relay table to another.
use Rattle.std.specs.Prelude.{ℕ, Bool, ◌≡◌, ◌==◌, ◌<◌, ◌&&◌, List, [], ◌∷◌, Option, Some, None, filter, nat_eq, if◌then◌else◌}
use Rattle.std.specs.List.{AllPairs}
use Rattle.std.specs.Option.{option_eq}
use Rattle.std.specs.Cmp.Lexicographic.{pointwise}
use Rattle.std.specs.FinMap.{get}
use Rattle.port_pool.specs.declared.hop.Hop.{Hop}
use Rattle.port_pool.specs.declared.changes.Change.{Change}
use Rattle.port_pool.specs.declared.changes.Change.TheVariants.{Put, Remove}
use Rattle.port_pool.specs.RelayTable.{Rows, changed_by}

-- the same place, from the same port
abbrev pub same_hop : Hop → Hop → Bool
same_hop a b = (pointwise nat_eq a.to.ip b.to.ip && a.to.port == b.to.port) && a.from == b.from

abbrev pub same_row : Option Hop → Option Hop → Bool
same_row a b = option_eq same_hop a b

abbrev pub port_of : Change → ℕ
port_of (Put port hop) = port
port_of (Remove port) = port

-- the change that gives a port this row
abbrev pub change_to : ℕ → Option Hop → Change
change_to port None = Remove port
change_to port (Some hop) = Put port hop

-- What leads from the old row of a port to its new one: Put if the row is new or different, Remove if it is gone, and
-- nothing if it is the same.
abbrev pub changes_between : ℕ → Option Hop → Option Hop → List Change
changes_between port old new = if same_row old new then [] else change_to port new ∷ []

-- the changes of one port
abbrev pub changes_at : ℕ → List Change → List Change
changes_at port changes = filter (λ c. port_of c == port) changes

-- These changes and no others lead from the old table to the new one: they rise by their ports, each port has what
-- leads from its old row to its new one, and all of them, one by one, make the new table.
pub record LeadFrom (old new : Rows) (changes : List Change) : Type 0 where
  pub rising : AllPairs (λ a b. port_of a < port_of b) changes
  pub each : (port : ℕ) → changes_at port changes ≡ changes_between port (get old port) (get new port)
  pub whole : changed_by old changes ≡ new
