-- The published value after one more list of changes.
use Rattle.std.specs.Prelude.{ℕ, ◌+◌, ◌%◌, ◌^◌, List}
use Rattle.port_pool.specs.declared.changes.Change.{Change}
use Rattle.port_pool.specs.RelayTable.{Rows, changed_by}
use Rattle.relay.specs.declared.table_value.Published.{Published}

-- the table, the number of lists that made it, and the last of these
abbrev pub Contents : Type 0
Contents = Rows × ℕ × List Change

abbrev pub contents : Published → Contents
contents p = (p.table, p.count, p.last.value)

abbrev pub after_list : Contents → List Change → Contents
after_list c changes = (changed_by c.0 changes, (c.1 + 1) % 2 ^ 64, changes)
