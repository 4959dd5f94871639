use Rattle.std.proofs.Common.{◌∙◌, ◌+◌, ℕ, List, None, ap}
use Rattle.calls.specs.State.{standing}
use Rattle.calls.specs.declared.standing_call.StandingCall.{StandingCall}
use Rattle.dialogs.specs.Making.{callees_dialog}
use Rattle.dialogs.specs.declared.state.Dialog.{Dialog}
use Rattle.call_messages.specs.Messages.{new_leg}
use Rattle.call_core.specs.declared.plan.Plan.{Plan}
use Rattle.call_core.specs.Calls.{new_call}
use Rattle.call_core.specs.Plans.{carried, description_sent}
use Rattle.call_steps.specs.Messages.{messages}
use Rattle.call_steps.specs.Rows.{begun}
use Rattle.call_steps.specs.Scenes.{first_scene, fresh}
use Rattle.call_steps.specs.Values.{AskerValue}
use Rattle.call_steps.proofs.StepLaws.{asked_with, begins_as_planned, standing_with}
use Rattle.call_steps.proofs.new_call.begins.Goals as goal

pub returns-clause-row : goal.returns-clause-row
returns-clause-row c =
    let calls = standing c.args.calls.now in
    let o = c.args.occasion in
    let request = c.args.request.now in
    let call = c.in_ok-call.call in
    let plan = c.in_ok-plan.plan in
    let tag = c.as_bytes.ensures ∙ c.in_ok-tag.ensures in
    let tag_again = c.as_bytes-3.ensures ∙ c.in_ok-tag.ensures in
    let row = rw c.pool.ensures at c.in_ok-plan.ensures.row in
    let is = c.in_ok-call.ensures.call
    ∙ ap (λ (n : ℕ). new_call (n + 1) o.range (callees_dialog request c.as_bytes.result.now call.caller.target)) c.begun.ensures.begun
    ∙ ap (λ (t : List ℕ). new_call (calls.begun + 1) o.range (callees_dialog request t call.caller.target)) tag in
    let id = c.args.id in
    let source = c.args.source in
    let target = c.args.target.now in
    let hops = request.max_forwards in
    let sent = description_sent plan.media in
    let asker = c.first_asker-asker.ensures ∙ ap (λ (t : List ℕ). asked_with request id source t) tag_again in
    let leg = c.in_ok-leg.ensures ∙ ap (λ (t : List ℕ). new_leg o.server request.parts target (fresh o 2) t) (c.as_bytes-2.ensures ∙ c.in_ok-callee_tag.ensures) in
    let says = c.in_ok-said.ensures.messages
    ∙ ap (λ (a : AskerValue). messages (first_scene o a hops c.in_ok-leg.leg sent) None plan.actions) asker
    ∙ ap (λ (l : Dialog). messages (first_scene o (asked_with request id source (fresh o 1)) hops l sent) None plan.actions) leg in
    c.step_of.ensures.row calls o
    ∙ ap (λ (p : Plan). begun calls o c.in_ok-boxed.boxed (carried c.in_ok-boxed.boxed.call calls.pool o.now p) c.in_ok-said.said) c.in_ok-kept.ensures
    ∙ ap (λ (b : StandingCall). begun calls o b (carried b.call calls.pool o.now plan) c.in_ok-said.said) c.in_ok-boxed.ensures
    ∙ ap (λ (t : List ℕ). begun calls o (standing_with call t request id source) (carried call calls.pool o.now plan) c.in_ok-said.said) c.in_ok-callee_tag.ensures
    ∙ begins_as_planned calls o request id source target c.args.offer.now call plan c.in_ok-said.said c.in_ok-call.ensures.contact is row says
