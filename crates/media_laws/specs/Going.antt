-- How a call goes on that did a step, with what came with the event.
use Rattle.std.specs.Prelude.{◌≡◌, Option, option_map}
use Rattle.dialogs.specs.declared.identifiers.DialogId.{DialogId}
use Rattle.dialogs.specs.declared.state.Dialog.{Dialog}
use Rattle.call_core.specs.declared.call.Call.{Call}
use Rattle.calls.specs.Carrying.{with_call}
use Rattle.calls.specs.Changes.{beside}
use Rattle.calls.specs.declared.standing_call.StandingCall.{StandingCall}
use Rattle.call_steps.specs.declared.messages.StepMessages.{StepMessages}
use Rattle.call_steps.specs.Rows.{put_with}
use Rattle.call_steps.specs.Values.{ComingValue}

-- the call in its place
abbrev pub put_as : ComingValue → StepMessages → Call → StandingCall → StandingCall
put_as w said call c = beside (put_with w said) (with_call call c)

abbrev pub id_of : Option Dialog → Option DialogId
id_of d = option_map (λ (x : Dialog). x.id) d

-- its dialogs have the same identifiers as before
pub record KeepsDialogs (c new : StandingCall) : Type 0 where
  pub caller : new.call.caller.id ≡ c.call.caller.id
  pub callee : id_of new.call.callee ≡ id_of c.call.callee
  pub tag : new.callee_tag ≡ c.callee_tag

-- where it still has a stage, its session and its open offer are those of the step
pub record StandsBy (call : Call) (new : StandingCall) : Type 0 where
  pub standing : new.call.standing ≡ call.standing
  pub session : new.call.media.session ≡ call.media.session
  pub offer : new.call.media.offer ≡ call.media.offer
