use Rattle.std.proofs.Common.{◌≡◌, length}
use Rattle.std.specs.List.{list_all}
use Rattle.sdp.specs.Lines.{texts}
use Rattle.sdp.specs.Order.{groups, is_group}
use Rattle.sdp.proofs.order.are_groups.Given as goal

abbrev pub invariant-loop-rest : goal.invariant-loop-rest
invariant-loop-rest l = list_all is_group (groups (texts l.rest)) ≡ list_all is_group (groups (texts l.lines))

abbrev pub decreases-loop-rest : goal.decreases-loop-rest
decreases-loop-rest l = length l.rest
