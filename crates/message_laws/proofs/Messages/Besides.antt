-- What is put beside a call leaves alone what neither a dialog nor a target of it changes.
use Rattle.std.proofs.Common.{◌≡◌, ◌∙◌, Option, Some, None, refl}
use Rattle.sip_uri.specs.declared.uri.Uri.{Uri}
use Rattle.dialogs.specs.declared.state.Dialog.{Dialog}
use Rattle.events.specs.declared.sent.Sent.{Sent}
use Rattle.call_media.specs.declared.end.End.{End}
use Rattle.call_core.specs.declared.call.Call.{Call}
use Rattle.call_core.specs.Calls.{with_dialog, with_target}
use Rattle.calls.specs.Carrying.{offerer_of, reached_call}
use Rattle.calls.specs.Changes.{beside, with_last, with_leg, with_taken_if}
use Rattle.calls.specs.declared.change.Beside.{Beside}
use Rattle.calls.specs.declared.change.LegDialog.{LegDialog}
use Rattle.calls.specs.declared.standing_call.TakenOffer.{TakenOffer}
use Rattle.calls.specs.declared.standing_call.StandingCall.{StandingCall}

module _ {X : Type 0} (of : Call → X) (dialog : (end : End) (d : Dialog) (c : Call) → of (with_dialog end d c) ≡ of c)
    (target : (end : End) (target : Uri) (c : Call) → of (with_target end target c) ≡ of c) where
  leg_same : (c : StandingCall) (leg : Option LegDialog) → of (with_leg leg c).call ≡ of c.call
  leg_same c None = refl
  leg_same c (Some leg) = dialog leg.end leg.dialog c.call

  taken_same : (c : StandingCall) (taken : Option TakenOffer) → of (with_taken_if taken c).call ≡ of c.call
  taken_same c None = refl
  taken_same c (Some o) = refl

  reached_same : (reached : Option Uri) (c : Call) → of (reached_call reached c) ≡ of c
  reached_same None c = refl
  reached_same (Some uri) c = target (offerer_of c.standing) uri c

  last_same : (c : StandingCall) (answer : Option Sent) → of (with_last answer c).call ≡ of c.call
  last_same c None = refl
  last_same c (Some answer) = reached_same c.target c.call

  pub beside_same : (c : StandingCall) (kept : Beside) → of (beside kept c).call ≡ of c.call
  beside_same c kept = last_same (with_taken_if kept.taken (with_leg kept.leg c)) kept.answer ∙ taken_same (with_leg kept.leg c) kept.taken ∙ leg_same c kept.leg
