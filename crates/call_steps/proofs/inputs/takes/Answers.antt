use Rattle.std.proofs.Common.{◌≡◌, ◌∙◌, ap, subst, sym}
use Rattle.std.specs.Prelude.{IfOk, option_map}
use Rattle.calls.specs.State.{standing}
use Rattle.call_core.specs.CallRows.{call_row}
use Rattle.call_steps.specs.Effects.{Effect, effect, with_timers}
use Rattle.call_steps.specs.Rows.{does}
use Rattle.call_steps.specs.Values.{ComingValue, asker_value}
use Rattle.call_steps.proofs.StepLaws.{takes_there}
use Rattle.call_steps.proofs.inputs.takes.Goals as goal

pub returns-in-None-clause-fits : goal.returns-in-None-clause-fits
returns-in-None-clause-fits c = λ timers. c.nothing.ensures.fits (with_timers timers (standing c.args.calls.now)) c.args.occasion.now

pub returns-in-Some-clause-row : goal.returns-in-Some-clause-row
returns-in-Some-clause-row c = λ timers.
    let calls = with_timers timers (standing c.args.calls.now) in
    let call = c.in-Some.call.now in
    let step = call_row call.call c.args.input.now calls.pool c.args.occasion.now in
    let same = ap (λ (w : ComingValue). does calls c.args.table.now c.args.occasion c.args.place w call step) c.without_offer-coming.ensures
    ∙ takes_there calls c.args.table.now c.args.occasion c.args.place c.args.input.now c.args.leg (option_map asker_value c.args.request) call (sym c.in-Some.ensures.call) in
    subst (λ (x : Effect). IfOk c.takes_at.result (λ step. effect calls c.args.occasion.now step ≡ x)) same (c.takes_at.ensures.row timers)

pub returns-in-Some-clause-refused : goal.returns-in-Some-clause-refused
returns-in-Some-clause-refused c = rw (← c.in-Some.ensures.call) c.takes_at.ensures.refused
