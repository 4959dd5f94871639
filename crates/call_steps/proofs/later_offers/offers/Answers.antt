use Rattle.std.proofs.Common.{◌≡◌, ◌∙◌, ap, subst}
use Rattle.std.specs.Prelude.{IfOk}
use Rattle.calls.specs.State.{standing}
use Rattle.call_core.specs.CallRows.{call_row}
use Rattle.call_steps.specs.Effects.{Effect, effect, with_timers}
use Rattle.call_steps.specs.Rows.{does}
use Rattle.call_steps.specs.Values.{ComingValue}
use Rattle.call_steps.proofs.StepLaws.{offers_there}
use Rattle.call_steps.proofs.later_offers.offers.Goals as goal

pub returns-in-Ok-clause-row : goal.returns-in-Ok-clause-row
returns-in-Ok-clause-row c = λ timers.
    let calls = with_timers timers (standing c.args.calls.now) in
    let call = c.args.call.now in
    let asked = c.args.received in
    let step = call_row call.call c.args.input.now calls.pool c.args.occasion.now in
    let same = ap (λ (w : ComingValue). does calls c.args.table.now c.args.occasion c.args.place w call step) (c.in-Ok.ensures calls.calls c.args.place c.requires.there)
    ∙ offers_there calls c.args.table.now c.args.occasion c.args.place c.args.input.now c.args.end asked.request.now asked.id asked.source call c.requires.there in
    subst (λ (x : Effect). IfOk c.takes_at.result (λ step. effect calls c.args.occasion.now step ≡ x)) same (c.takes_at.ensures.row timers)
