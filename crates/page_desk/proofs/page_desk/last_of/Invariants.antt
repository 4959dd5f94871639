use Rattle.rtrb.specs.Ring.{received}
use Rattle.page_desk.proofs.MomentLaws.{AreTaken}
use Rattle.page_desk.proofs.page_desk.last_of.Given as goal

-- of those taken so far
abbrev pub invariant-loop : goal.invariant-loop
invariant-loop l = AreTaken l.before (received l.fn.moments) (received l.moments) l.last l.counter
