use Rattle.std.proofs.Common.{◌≡◌, map}
use Rattle.sockets.specs.Traffic.{no_traffic}
use Rattle.sockets.proofs.workers.workers_of.Given as goal

-- a worker for each viewer so far, on sockets that nobody used
abbrev pub invariant-loop-viewer : goal.invariant-loop-viewer
invariant-loop-viewer l = (map (λ w. w.viewer) l.workers.items ≡ l.yielded) × (map (λ w. w.socket) l.workers.items ≡ map (λ _. no_traffic) l.yielded)
