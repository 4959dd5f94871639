use Rattle.std.proofs.Common.{[], ◌∷◌, length-append, arith}
use Rattle.page_server.proofs.LeavingLaws.{gone, left_or_gone}
use Rattle.page_server.proofs.connections.turn_all.Goals as goal

pub loop-connection-preserved-in-Some-turn : goal.loop-connection-preserved-in-Some-turn
loop-connection-preserved-in-Some-turn g c = (
  c.keep.ensures.timely c.args.now c.loop-connection.invariant.0 c.in-Some-turn.ensures.timely,
  c.keep.ensures.brief c.args.now c.loop-connection.invariant.1 c.in-Some-turn.ensures.brief,
  left_or_gone c.args.now c.loop-connection.yielded c.loop-connection.kept.items c.keep.new.kept.items c.in-Some.connection c.in-Some-turn.left c.keep.result
      c.keep.ensures.ok c.keep.ensures.err c.in-Some-turn.ensures.kept c.loop-connection.invariant.2,
  omega (arith, length-append c.loop-connection.yielded (c.in-Some.connection ∷ []), c.keep.ensures.most, c.loop-connection.invariant.3),
)

pub loop-connection-preserved : goal.loop-connection-preserved
loop-connection-preserved g c = (
  c.loop-connection.invariant.0,
  c.loop-connection.invariant.1,
  gone c.args.now c.loop-connection.yielded c.loop-connection.kept.items c.in-Some.connection c.loop-connection.invariant.2,
  omega (arith, length-append c.loop-connection.yielded (c.in-Some.connection ∷ []), c.loop-connection.invariant.3),
)
