use Rattle.std.proofs.Common.{◌∙◌, List, Option, None, ap}
use Rattle.std.specs.Prelude.{if◌then◌else◌}
use Rattle.std.specs.List.{list_any}
use Rattle.std.proofs.lemmas.Result.{IfOk-weaker}
use Rattle.sdp.specs.declared.description.Description.{Description}
use Rattle.call_core.specs.declared.action.Action.{Action}
use Rattle.call_core.specs.Plans.{carried}
use Rattle.call_steps.specs.Messages.{ends_offer, messages}
use Rattle.call_steps.specs.Scenes.{at_id, passed_id, scene}
use Rattle.call_steps.specs.Values.{coming_value, scene_value}
use Rattle.call_steps.proofs.PassedLaws.{so_told}
use Rattle.call_steps.proofs.scene.messages_of.Goals as goal

pub returns-clause-messages : goal.returns-clause-messages
returns-clause-messages c pool now =
    let table = c.args.table.now in
    let o = c.args.occasion in
    let w = coming_value c.args.coming.now in
    let call = c.args.call.now in
    let passed = c.passed_for-passed.result in
    let value = scene_value c.scene-scene.result in
    IfOk-weaker c.messages.result _ _ (λ m is.
    is
    ∙ ap (λ (l : List Action). messages value passed l) c.as_slice-actions.ensures
    ∙ so_told table o w call (carried call.call pool now c.args.plan.now) value passed
    (c.scene-scene.ensures.scene ∙ ap (λ (d : Option Description). record (scene table o w call d) { passed = at_id table.slots passed }) c.description.ensures)
    (c.passed_for-passed.ensures ∙ ap (λ (l : List Action). if list_any ends_offer l then passed_id table call else None) c.as_slice-actions.ensures)
    ) c.messages.ensures.messages
