use Rattle.rtrb.specs.Ring.{received}
use Rattle.page_desk.proofs.MomentLaws.{one_more}
use Rattle.page_desk.proofs.page_desk.last_of.Goals as goal

pub loop-preserved : goal.loop-preserved
loop-preserved c =
    one_more c.args.before (received c.args.moments.now) (received c.loop.moments) (received c.pop.new.self) c.loop.last c.in-Ok.moment c.loop.counter c.loop.invariant c.in-Ok.ensures.ok.0
