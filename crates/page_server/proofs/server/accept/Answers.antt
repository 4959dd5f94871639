use Rattle.page_server.proofs.ArrivalLaws.{one_more}
use Rattle.page_server.proofs.server.accept.Goals as goal

pub loop-preserved : goal.loop-preserved
loop-preserved c = one_more c.args.now c.args.connections.now c.loop.connections c.admit.new.connections c.loop.invariant c.admit.ensures
