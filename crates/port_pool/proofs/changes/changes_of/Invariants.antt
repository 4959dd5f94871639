use Rattle.std.proofs.Common.{◌≡◌, ◌++◌, drop}
use Rattle.std.specs.List.{flat_map}
use Rattle.port_pool.specs.Pool.{changes_of_port, ports_of}
use Rattle.port_pool.proofs.PlaceLaws.{ports_at}
use Rattle.port_pool.proofs.changes.changes_of.Given as goal

abbrev pub invariant-loop-entry : goal.invariant-loop-entry
invariant-loop-entry l =
    l.changes.items ++ flat_map (changes_of_port l.table l.lines) (flat_map (ports_at l.places) (drop l.entry-index l.entries))
    ≡ flat_map (changes_of_port l.table l.lines) (ports_of l.call l.places)
