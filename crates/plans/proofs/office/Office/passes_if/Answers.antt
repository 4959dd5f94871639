use Rattle.std.proofs.Common.{◌≡◌, ◌∙◌, Some, ap, sym}
use Rattle.call_core.specs.declared.input.Input.TheVariants as inputs
use Rattle.call_core.specs.declared.signal.OfferMethod.{OfferMethod}
use Rattle.call_steps.specs.Rows.{offers_row}
use Rattle.plans.specs.CallRows.{occasion}
use Rattle.plans.proofs.OfferLaws.{clear, passed_as, refused_as}
use Rattle.plans.proofs.PlanLaws.{effect_as, stepped_as}
use Rattle.plans.proofs.office.Office.passes_if.Goals as goal

pub returns-in-Ok-clause-row : goal.returns-in-Ok-clause-row
returns-in-Ok-clause-row c =
    let s = c.args.self.now in
    let r = c.args.request.now in
    let call = c.args.call.now.call in
    let free = clear r c.args.end call c.requires.free in
    let may = rw (c.in-Ok.is, c.offer_method.ensures) at c.offer_step-step.ensures.may in
    let row = rw c.in-Ok.is at c.offer_step-step.ensures.row s.calls.timers in
    let step = row ∙ ap (λ (m : OfferMethod). offers_row s.calls s.table (occasion s c.args.setting) c.args.place (inputs.Offer c.args.end m (Some c.args.offer)) c.args.end r c.args.id c.args.setting.source) c.offer_method.ensures in
    effect_as c.of_step.result s.calls s.acks c.args.setting.now _ _ (passed_as s c.args.setting r c.args.begun.items c.args.id c.args.place c.args.end call c.args.offer free.1 may)
    (stepped_as c.of_step.result s.calls s.acks c.args.setting.now _ _ _ _ _ _ _ _ c.alone.ensures.begun c.alone.ensures.send c.alone.ensures.id step
    (c.of_step.ensures.row s.calls s.acks c.args.setting.now))

pub returns-in-Ok-clause-fits : goal.returns-in-Ok-clause-fits
returns-in-Ok-clause-fits c =
    let calls = c.args.self.now.calls in
    let can = rw c.in-Ok.is at c.offer_step-step.ensures.can calls.timers in
    c.of_step.ensures.fits calls c.args.setting.now can

pub returns-in-Some-clause-row : goal.returns-in-Some-clause-row
returns-in-Some-clause-row c =
    let s = c.args.self.now in
    let r = c.args.request.now in
    let call = c.args.call.now.call in
    let free = clear r c.args.end call c.requires.free in
    let why = rw c.in-Err.is at c.offer_step-step.ensures.refused in
    let is = sym c.reason_of_refusal.ensures ∙ c.in-Some.is in
    effect_as c.refuses_in.result s.calls s.acks c.args.setting.now _ _ (refused_as s c.args.setting r c.args.begun.items c.args.id c.args.place c.args.end call c.args.offer c.in-Err.refusal c.in-Some.reason free.0 why is) c.refuses_in.ensures.row
