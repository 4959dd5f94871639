use Rattle.std.proofs.Common.{◌≡◌, length}
use Rattle.sdp.specs.Lines.{texts}
use Rattle.sdp.specs.Order.{less_all}
use Rattle.sdp.proofs.order.less_all.Given as goal

abbrev pub invariant-loop-rest : goal.invariant-loop-rest
invariant-loop-rest l = less_all l.types (texts l.rest) ≡ less_all l.types (texts l.lines)

abbrev pub decreases-loop-rest : goal.decreases-loop-rest
decreases-loop-rest l = length l.rest
