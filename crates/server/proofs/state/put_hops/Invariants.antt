use Rattle.std.proofs.Common.{◌≡◌, ◌++◌}
use Rattle.server.specs.State.{hops_below}
use Rattle.server.proofs.state.put_hops.Given as goal

-- the text of the ports so far
abbrev pub invariant-loop-port : goal.invariant-loop-port
invariant-loop-port l = l.out.items ≡ l.fn.out.items ++ hops_below l.relay l.port
