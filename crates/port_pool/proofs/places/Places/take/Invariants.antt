use Rattle.std.proofs.Common.{◌≡◌, drop}
use Rattle.port_pool.specs.Holdings.{taken}
use Rattle.port_pool.proofs.places.Places.take.Given as goal

abbrev pub invariant-loop-pair : goal.invariant-loop-pair
invariant-loop-pair l = taken l.call (drop l.pair-index l.pairs) l.self ≡ taken l.call l.pairs l.initial.self
