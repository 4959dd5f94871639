use Rattle.std.proofs.Common.{◌≡◌, take}
use Rattle.port_pool.specs.RelayTable.{changed_by}
use Rattle.relay.proofs.table_value.change_all.Given as goal

abbrev pub invariant-loop-change : goal.invariant-loop-change
invariant-loop-change l = l.table ≡ changed_by l.initial.table (take l.change-index l.changes)
