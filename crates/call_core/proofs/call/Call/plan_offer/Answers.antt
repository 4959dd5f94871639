use Rattle.std.proofs.Common.{◌≡◌, ◌∙◌, Some, subst, sym}
use Rattle.call_core.specs.declared.signal.Signal.TheVariants as signals
use Rattle.call_core.specs.Plans.{IfLine, OffersOn}
use Rattle.call_core.specs.Table.{row_of}
use Rattle.call_core.proofs.TableLaws.{offer_leads}
use Rattle.call_core.proofs.call.Call.plan_offer.Goals as goal

pub plan_passing-requires-clause-leads : goal.plan_passing-requires-clause-leads
plan_passing-requires-clause-leads c =
    let line : row_of c.args.standing (signals.Offer c.args.end c.args.method) ≡ Some c.in-Some-Some.row = sym c.in_ok-row_at.ensures ∙ c.in-Some-Some.is-0 in
    subst (IfLine (OffersOn c.args.standing.stage)) line (offer_leads c.args.standing c.args.end c.args.method)

pub returns-in-None-default-clause-planned : goal.returns-in-None-default-clause-planned
returns-in-None-default-clause-planned c = c.plan_nothing.ensures.planned c.args.pool.now c.args.now
