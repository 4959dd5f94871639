-- The rule of the published table: it is what the published lists make of the empty table, and what each thread knows
-- begins them.
use Rattle.std.specs.Prelude.{◌≡◌, ℕ, List, [], ◌∷◌, ◌++◌, length}
use mathlib.Core.Option.{some}
use lib.ListN.{get_elem?}
use Rattle.relay.specs.declared.table_value.Published.{Published}
pub use Rattle.relay.specs.Lists.{Lists, StartsWith, table_after}

-- the published value is what these lists make
abbrev pub IsAfter : Published → Lists → Type 0
IsAfter x lists = (x.count ≡ length lists) × (x.table ≡ table_after lists)

abbrev pub Keeps : Published → List Lists → Type 0
Keeps x views =
    (lists : Lists) × IsAfter x lists
    × ((seat : ℕ) (known : Lists) → get_elem? views seat ≡ some known → StartsWith lists known)

-- a look-up sees lists that begin with those known before
abbrev pub Reads : Lists → Published → Published → Lists → Type 0
Reads v x y w = IsAfter y w × StartsWith w v

-- a publication puts its list after those known before
abbrev pub Adds : Lists → Published → Published → Lists → Type 0
Adds v x y w = (w ≡ v ++ y.last.value ∷ []) × IsAfter y w
