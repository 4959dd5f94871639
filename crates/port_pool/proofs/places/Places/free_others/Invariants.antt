use Rattle.std.proofs.Common.{◌≡◌, ◌≤◌, true, length}
use Rattle.port_pool.specs.Holdings.{others_freed}
use Rattle.port_pool.specs.Places.{places_of, kept_from}
use Rattle.port_pool.proofs.places.Places.free_others.Given as goal

abbrev pub invariant-loop-left : goal.invariant-loop-left
invariant-loop-left l =
    (others_freed l.call l.kept l.now l.self ≡ others_freed l.call l.kept l.now l.initial.self)
    × (l.left ≤ length (places_of l.call 0 l.self)) × (kept_from l.call l.kept l.left l.self ≡ true)

abbrev pub decreases-loop-left : goal.decreases-loop-left
decreases-loop-left l = l.left
