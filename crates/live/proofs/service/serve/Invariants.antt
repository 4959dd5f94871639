use Rattle.live.specs.Turns.{HasTable}
use Rattle.live.proofs.ServingLaws.{Going}
use Rattle.live.proofs.service.serve.Given as goal

-- the board's table is the agent's; and these rounds were made so far
abbrev pub invariant-loop : goal.invariant-loop
invariant-loop g l = record {
  table : HasTable l.signalling.board l.signalling.agent;
  so_far : Going (record { state = record { agent = l.fn.signalling.agent; lists = l.fn.signalling.board; wire = g.W.Wire.seen l.fn.signalling.wire }; salts = l.fn.signalling.salts; moments = g.C.Clock.told l.fn.clock; news = g.O.Operator.handed l.fn.operator; told = g.O.Operator.told l.fn.operator })
      (record { state = record { agent = l.signalling.agent; lists = l.signalling.board; wire = g.W.Wire.seen l.signalling.wire }; salts = l.signalling.salts; moments = g.C.Clock.told l.clock; news = g.O.Operator.handed l.operator; told = g.O.Operator.told l.operator }) l.fn.turns l.turns l.streaks;
}
