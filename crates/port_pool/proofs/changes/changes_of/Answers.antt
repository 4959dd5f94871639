use Rattle.std.proofs.Common.{ℕ, List, ap}
use Rattle.std.specs.List.{flat_map}
use Rattle.port_pool.specs.Pool.{changes_of_port}
use Rattle.port_pool.specs.Places.{no_holding}
use Rattle.port_pool.proofs.CallLaws.{ports_at_places, entry_within, kth_held}
use Rattle.port_pool.proofs.changes.changes_of.Goals as goal

pub loop-entry-init : goal.loop-entry-init
loop-entry-init c =
    rw c.new-changes.ensures.items
    (ap (λ (ps : List ℕ). flat_map (changes_of_port c.args.table.now c.args.lines.now) ps) (ports_at_places c.args.places.now c.args.call c.of_call-entries.result.now c.of_call-entries.ensures))

pub even_at-even-requires : goal.even_at-even-requires
even_at-even-requires c =
    let kth = entry_within c.args.places.now c.args.call c.of_call-entries.result.now c.loop-entry.entry-index (record { print = 0; number = 0 }) c.of_call-entries.ensures c.loop-entry-test.true in
    (kth_held c.args.call c.args.places.now 0 c.loop-entry.entry-index _ no_holding kth).0
