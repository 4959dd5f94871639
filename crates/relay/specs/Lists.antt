-- Lists of changes, in the order in which they were published, and the relay table that they make.
use Rattle.std.specs.Prelude.{◌≡◌, List, ◌++◌, ◌⊎◌, fold}
use Rattle.std.specs.FinMap.{empty}
use Rattle.port_pool.specs.declared.changes.Change.{Change}
use Rattle.port_pool.specs.RelayTable.{Rows, changed_by}

abbrev pub Lists : Type 0
Lists = List (List Change)

-- the empty table after these lists, one by one
abbrev pub table_after : Lists → Rows
table_after lists = fold changed_by empty lists

-- the lists begin with those seen
abbrev pub StartsWith : Lists → Lists → Type 0
StartsWith lists seen = (rest : Lists) × (lists ≡ seen ++ rest)

-- one of the two begins the other
abbrev pub BeginAlike : Lists → Lists → Type 0
BeginAlike one other = StartsWith one other ⊎ StartsWith other one
