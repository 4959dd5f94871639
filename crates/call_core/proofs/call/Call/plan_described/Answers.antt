use Rattle.call_core.proofs.PlanLaws.{answered_by_plan}
use Rattle.call_core.proofs.call.Call.plan_described.Goals as goal

pub returns-in-Ok-clause-row : goal.returns-in-Ok-clause-row
returns-in-Ok-clause-row c =
    rw (c.plan_of.ensures, c.none.ensures)
    (answered_by_plan c.args.self.now c.args.standing c.args.pool.now c.args.now c.args.answer.now c.in_ok-row.row c.in-Ok.planned c.requires.asked
    c.in-Ok.ensures.fits c.in-Ok.ensures.taken c.in-Ok.ensures.ready c.in_ok-row.ensures.row)

pub returns-in-Ok-clause-planned : goal.returns-in-Ok-clause-planned
returns-in-Ok-clause-planned c =
    rw c.plan_of.ensures
    (record {
      media = record { asked = c.requires.asked; fits = c.in-Ok.ensures.ready };
      offer = c.in_ok-row.ensures.leads.offer;
      session = c.in_ok-row.ensures.leads.session;
    })
