use Rattle.std.proofs.Common.{◌≡◌, ◌++◌, take, drop}
use Rattle.sdp.specs.Lines.{texts}
use Rattle.sdp.specs.Order.{upto_medium}
use Rattle.sdp.proofs.order.upto_medium.Given as goal

-- all lines so far come before the first m=, and so do those of what is left
abbrev pub invariant-loop-at : goal.invariant-loop-at
invariant-loop-at l = texts (take l.at l.lines) ++ upto_medium (texts (drop l.at l.lines)) ≡ upto_medium (texts l.lines)
