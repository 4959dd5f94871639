use Rattle.std.proofs.Common.{◌≡◌, ◌++◌, take, drop}
use Rattle.sdp.specs.Lines.{texts}
use Rattle.sdp.specs.Order.{front_of}
use Rattle.sdp.proofs.order.front_of.Given as goal

-- all lines so far are at the front, and so are those at the front of what is left
abbrev pub invariant-loop-at : goal.invariant-loop-at
invariant-loop-at l = texts (take l.at l.lines) ++ front_of l.types (texts (drop l.at l.lines)) ≡ front_of l.types (texts l.lines)
