-- A trace that reads what a step of a call sends hears what its actions say.
use Rattle.std.proofs.Common.{◌≡◌, ℕ, true, Bool, List, [], ◌∷◌, Some}
use Rattle.std.specs.Prelude.{slice_get}
use Rattle.std.proofs.lemmas.Bool.{or_left, or_right}
use Rattle.call_core.specs.CallRows.{call_row}
use Rattle.call_core.specs.declared.action.Action.{Action}
use Rattle.call_core.specs.declared.input.Input.{Input}
use Rattle.call_steps.specs.Messages.{messages}
use Rattle.call_steps.specs.Rows.{messages_of}
use Rattle.call_steps.specs.Values.{ComingValue}
use Rattle.calls.specs.declared.standing_call.StandingCall.{StandingCall}
use Rattle.call_messages.specs.Dressing.{dress_one}
use Rattle.call_messages.specs.declared.scene.Scene.{Scene}
use Rattle.plans.specs.CallRows.{occasion}
use Rattle.plans.specs.Office.{Office}
use Rattle.plans.specs.declared.setting.Setting.{Setting}
use Rattle.call_trace.specs.declared.datagram.Message.{Message}
use Rattle.call_trace.specs.Listed.{AllOf}
use Rattle.message_laws.proofs.QuietEvents.Describing.{BodiesDescribe}
use Rattle.message_laws.specs.Comings.{CanCome, KnowsScenes}
use Rattle.message_laws.specs.Saying.{OneIf}
use Rattle.message_laws.proofs.Messages.ReadBack.{SentIsRead}
use Rattle.message_laws.specs.Said.{SaysAction}
use Rattle.message_laws.specs.SoundScenes.{HaveFitStatuses, IsSoundScene, answer_offer, answers_offer}
use Rattle.message_laws.proofs.Messages.SaidActions.{action_said}
use Rattle.message_laws.proofs.Traces.Scenes.{step_fits, step_scene}
use Rattle.media_laws.specs.Coming.{scene_at}
use Rattle.message_laws.specs.Messages.{AreMessages}
use Rattle.media_laws.specs.Heard.{HearsActions}
use Rattle.media_laws.proofs.Scenes.HeardActions.{hears_actions}
use Rattle.media_laws.proofs.Scenes.Reading.{Reading}

-- a scene that is sound where one of these actions answers is so for each of them
sound_less : (s : Scene) (a b : Bool) → (b ≡ true → a ≡ true) → IsSoundScene s a → IsSoundScene s b
sound_less s a b less h = record { asks = h.asks; hops = h.hops; offer = λ e. h.offer (less e); request = h.request; reads = h.reads; short = h.short }

each_said : BodiesDescribe → (s : Scene) (actions : List Action) → IsSoundScene s (answer_offer actions) → HaveFitStatuses actions
    → AllOf (λ action. (count : ℕ) → OneIf (SaysAction s count action) (dress_one s count action).sends) actions
each_said describes s [] sound fit = tt
each_said describes s (action ∷ later) sound fit = (
  λ count. action_said describes s count action (sound_less s (answer_offer (action ∷ later)) (answers_offer action) (or_left (answers_offer action) (answer_offer later)) sound) fit.0,
  each_said describes s later (sound_less s (answer_offer (action ∷ later)) (answer_offer later) (or_right (answers_offer action) (answer_offer later)) sound) fit.1,
)

pub step_heard : Reading → BodiesDescribe → SentIsRead → (s : Office) (e : Setting) (place : ℕ) (c : StandingCall) (input : Input) (w : ComingValue) → KnowsScenes s → slice_get s.calls.calls place ≡ Some c → CanCome input w → (ms : List Message)
    → AreMessages (messages_of s.table (occasion s e) w c (call_row c.call input s.calls.pool e.now)).dressed.sends ms
    → HearsActions (scene_at s e w c (call_row c.call input s.calls.pool e.now).description) s.tokens (call_row c.call input s.calls.pool e.now).actions ms
unfolding messages
step_heard reads describes law s e place c input w k there can ms are =
    let step = call_row c.call input s.calls.pool e.now in
    hears_actions reads (scene_at s e w c step.description) s.tokens step.actions ms
    (each_said describes (scene_at s e w c step.description) step.actions (step_scene law s e place c input w k there can) (step_fits law s e place c input w k there can)) are
