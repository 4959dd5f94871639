use Rattle.std.proofs.Common.{◌≡◌, take}
use Rattle.port_pool.specs.RelayTable.{changed_by}
use Rattle.port_pool.proofs.relay_table.RelayTable.change_all.Given as goal

abbrev pub invariant-loop-change : goal.invariant-loop-change
invariant-loop-change l = l.self ≡ changed_by l.initial.self (take l.change-index l.changes)
