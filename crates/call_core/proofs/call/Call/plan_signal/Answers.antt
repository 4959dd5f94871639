use Rattle.std.proofs.Common.{◌≡◌, ◌∙◌, Some, subst, sym}
use Rattle.call_core.specs.Plans.{IfLine, LeadsOn}
use Rattle.call_core.specs.Table.{row_of}
use Rattle.call_core.proofs.TableLaws.{plain_leads}
use Rattle.call_core.proofs.call.Call.plan_signal.Goals as goal

pub plan_line-requires-clause-leads : goal.plan_line-requires-clause-leads
plan_line-requires-clause-leads c =
    let line : row_of c.args.standing c.args.signal ≡ Some c.in-Some.row = sym c.in_ok-row_at.ensures ∙ c.in-Some.is in
    subst (IfLine (LeadsOn c.args.standing.stage)) line (plain_leads c.args.standing c.args.signal c.requires.plain)

pub returns-in-None-clause-planned : goal.returns-in-None-clause-planned
returns-in-None-clause-planned c = c.plan_nothing.ensures.planned c.args.pool.now c.args.now
