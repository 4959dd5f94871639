-- A step of a call for a signal leaves the call as its line says, in what the trace shows of it.
use Rattle.std.proofs.Common.{◌≡◌, ◌⊎◌, ◌∙◌, ℕ, Option, Some, None, inl, inr}
use Rattle.port_pool.specs.Pool.{Contents}
use Rattle.call_core.specs.CallRows.{call_row}
use Rattle.call_core.specs.Table.{row_of}
use Rattle.call_core.specs.declared.input.Input.{Input}
use Rattle.call_core.specs.declared.signal.Signal.{Signal}
use Rattle.call_core.specs.declared.stage.Standing.{Standing}
use Rattle.call_steps.specs.Values.{ComingValue}
use Rattle.call_steps.specs.declared.messages.StepMessages.{StepMessages}
use Rattle.calls.specs.declared.standing_call.StandingCall.{StandingCall}
use Rattle.media_laws.specs.Coming.{FitsComing}
use Rattle.media_laws.specs.Going.{put_as}
use Rattle.media_laws.proofs.Scenes.GoingOn.{asked_on, dialogs_go_on, put_tag, stands_by}
use Rattle.media_laws.specs.Lines.{next_in}
use Rattle.media_laws.specs.Steps.{GoesOnAt, IsSignalOf}
use Rattle.media_laws.proofs.CallLines.OwnNumbers.{opens_alike}
use Rattle.media_laws.proofs.CallLines.SignalSteps.{signal_row}

kept_as : {X : Type 0} (before after put : Option X) → put ≡ after → (after ≡ before) ⊎ (after ≡ None) → (put ≡ before) ⊎ (put ≡ None)
kept_as before after put is (inl same) = inl (is ∙ same)
kept_as before after put is (inr none) = inr (is ∙ none)

pub goes_on_at : (w : ComingValue) (said : StepMessages) (c : StandingCall) (n : Standing) (input : Input) (signal : Signal) (pool : Contents) (now : ℕ) → c.call.standing ≡ Some n → IsSignalOf c.call input signal → FitsComing c w.leg
    → w.taken ≡ None → GoesOnAt c (put_as w said (call_row c.call input pool now).call c) (next_in n (row_of n signal))
goes_on_at w said c n input signal pool now stands of fits none =
    let call = (call_row c.call input pool now).call in
    let step = signal_row c.call n input signal pool now stands of in
    let by = stands_by w said call c in
    record {
      standing = by.standing ∙ step.next;
      dialogs = dialogs_go_on w said c input pool now fits;
      media = record {
        session = kept_as c.call.media.session call.media.session (put_as w said call c).call.media.session by.session step.media.session;
        offer = kept_as c.call.media.offer call.media.offer (put_as w said call c).call.media.offer by.offer step.media.offer;
      };
      asked = asked_on w said call c none;
      opens = λ a m is_a next_m offerer waits_a waits_m.
          opens_alike w said call c a m step.caller step.callee fits (put_tag w said call c) is_a ((by.standing ∙ step.next) ∙ next_m) offerer waits_a waits_m;
    }
