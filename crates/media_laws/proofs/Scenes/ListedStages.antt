-- Where a call has a standing, so has the trace's call, and the scene has the legs that its stage asks for.
use Rattle.std.proofs.Common.{◌≡◌, ◌≢◌, ◌∙◌, ℕ, Bool, false, List, Option, Some, None, refl, sym, subst}
use Rattle.std.proofs.lemmas.Bool.{false≢true}
use Rattle.sdp.specs.declared.description.Description.{Description}
use Rattle.dialogs.specs.declared.state.Dialog.{Dialog as LegDialog}
use Rattle.transactions.specs.declared.transaction.Transaction.{Transaction}
use Rattle.call_media.specs.declared.end.End.{End}
use Rattle.call_media.specs.declared.end.End.TheVariants.{Callee, Caller}
use Rattle.call_media.specs.declared.session.OpenOffer.{OpenOffer}
use Rattle.call_media.specs.declared.session.Session.{Session}
use Rattle.call_core.specs.Calls.{dialog_of}
use Rattle.call_core.specs.declared.signal.Signal.{Signal}
use Rattle.call_core.specs.declared.signal.Signal.TheVariants as signals
use Rattle.call_core.specs.declared.stage.Stage.{Stage}
use Rattle.call_core.specs.declared.stage.Stage.TheVariants as stages
use Rattle.call_core.specs.declared.stage.Standing.{Standing}
use Rattle.calls.specs.declared.standing_call.StandingCall.{StandingCall}
use Rattle.call_steps.specs.Values.{ComingValue}
use Rattle.call_messages.specs.declared.scene.Scene.{Scene}
use Rattle.plans.specs.Office.{Office}
use Rattle.plans.specs.declared.setting.Setting.{Setting}
use Rattle.call_trace.specs.declared.call.Call.{Call}
use Rattle.call_trace.specs.declared.datagram.Datagram.{Datagram}
use Rattle.message_laws.specs.CalleeDialogs.{FitsStage, HasCallee, is_unanswered}
use Rattle.message_laws.specs.Sound.{HasSoundLegs}
use Rattle.message_laws.proofs.AwaitedOffers.Awaiting.{all_at}
use Rattle.media_laws.specs.Lines.{Answered, HasLegs, IsAt, Legs, Offering}
use Rattle.media_laws.specs.Shows.{ShowsCall, ShowsLegs, ShowsOpen, ShowsSettled, ShowsStage, ShowsStanding, settled_of}
use Rattle.media_laws.specs.Coming.{FitsComing, HasNumbersLeft, scene_at}
use Rattle.media_laws.proofs.Scenes.Legs.{leg_in}
use Rattle.media_laws.specs.Taking.{IsShownAt, KnowsLegs}

-- ---- the stage

settled_at : (o : Option Session) (d : Call) → ShowsSettled o d.stage → Answered d
settled_at None d h = absurd h
settled_at (Some x) d h = record { settled = settled_of x; stage = h }

open_at : (slots : List (Option Transaction)) (begun : List Transaction) (t : List Datagram) (name : List ℕ) (c : StandingCall) (x : End) (o : Option OpenOffer) (d : Call) → Answered d → ShowsOpen slots begun t name c x o d → Offering d
open_at slots begun t name c x None d answered h = absurd h
open_at slots begun t name c x (Some o) d answered h = record { answered = answered; offer = h.0; open_is = h.1.open_is }

staged_at : (slots : List (Option Transaction)) (begun : List Transaction) (t : List Datagram) (c : StandingCall) (n : Standing) (stage : Stage) (d : Call) → ShowsStage slots begun t c n stage d → IsAt n.offerer stage d
staged_at slots begun t c n (stages.Asked rung) d h = (h.0, h.2)
staged_at slots begun t c n (stages.Cancelling sent) d h = absurd h
staged_at slots begun t c n (stages.Answered interval) d h = settled_at c.call.media.session d h.0
staged_at slots begun t c n stages.Settled d h = settled_at c.call.media.session d h.0
staged_at slots begun t c n (stages.Reasked rung cancelled) d h = open_at slots begun t _ c n.offerer c.call.media.offer d (settled_at c.call.media.session d h.0) h.1
staged_at slots begun t c n (stages.Reanswered interval) d h = settled_at c.call.media.session d h.0
staged_at slots begun t c n stages.Updating d h = open_at slots begun t _ c n.offerer c.call.media.offer d (settled_at c.call.media.session d h.0) h.1
staged_at slots begun t c n (stages.Ending interval) d h = h.0

pub stage_shown : (slots : List (Option Transaction)) (begun : List Transaction) (t : List Datagram) (c : StandingCall) (n : Standing) (d : Call) → c.call.standing ≡ Some n → ShowsCall slots begun t c d → ShowsStage slots begun t c n n.stage d
stage_shown slots begun t c n d stands shows = subst (λ o. ShowsStanding slots begun t c o d) stands shows.standing

pub is_at : (slots : List (Option Transaction)) (begun : List Transaction) (t : List Datagram) (c : StandingCall) (n : Standing) (d : Call) → c.call.standing ≡ Some n → ShowsCall slots begun t c d → IsAt n.offerer n.stage d
is_at slots begun t c n d stands shows = staged_at slots begun t c n n.stage d (stage_shown slots begun t c n d stands shows)

-- ---- the legs

-- a call that was answered has a dialog with each end
callee_there : (o : Option LegDialog) (n : Standing) → is_unanswered n.stage ≡ false → FitsStage o n → (old : LegDialog) × (o ≡ Some old)
callee_there None n answered h = absurd (false≢true (sym answered ∙ h.stage))
callee_there (Some old) n answered h = (old, refl)

pub dialog_there : (c : StandingCall) (n : Standing) (end : End) → HasCallee c → c.call.standing ≡ Some n → is_unanswered n.stage ≡ false → (old : LegDialog) × (dialog_of end c.call ≡ Some old)
dialog_there c n Caller has stands answered = (c.call.caller, refl)
dialog_there c n Callee has stands answered = callee_there c.call.callee n answered (has n stands)

pub legs_there : (s : Office) (e : Setting) (w : ComingValue) (c : StandingCall) (description : Option Description) (n : Standing) (d : Call) → HasSoundLegs c → HasNumbersLeft c → HasCallee c → ShowsLegs c d → FitsComing c w.leg
    → c.call.standing ≡ Some n → is_unanswered n.stage ≡ false → Legs (scene_at s e w c description) d
legs_there s e w c description n d sound left has shows fits stands answered = λ end.
    let old = dialog_there c n end has stands answered in
    leg_in s e w c description d end old.0 sound left shows fits old.1

-- before that, only that of a first 2xx is needed
none_asked : (rung : Bool) (scene : Scene) (d : Call) (signal : Signal) → signal ≢ signals.UnfitAnswer → HasLegs (stages.Asked rung) scene d signal
none_asked rung scene d (signals.Offer end method) other = tt
none_asked rung scene d (signals.Provisional status) other = tt
none_asked rung scene d signals.FitAnswer other = tt
none_asked rung scene d signals.UnfitAnswer other = absurd (other refl)
none_asked rung scene d (signals.Refusal status) other = tt
none_asked rung scene d signals.TimedOut other = tt
none_asked rung scene d signals.Ack other = tt
none_asked rung scene d signals.Cancel other = tt
none_asked rung scene d (signals.Bye end) other = tt
none_asked rung scene d signals.Limit other = tt
none_asked rung scene d signals.Repeat other = tt
none_asked rung scene d signals.Wait other = tt
none_asked rung scene d signals.Lifetime other = tt

-- what a stage asks for, where a first 2xx is not what comes
pub staged_legs : (stage : Stage) (scene : Scene) (x : End) (d : Call) (signal : Signal) → IsAt x stage d → ((rung : Bool) → stage ≡ stages.Asked rung → HasLegs (stages.Asked rung) scene d signal) → (is_unanswered stage ≡ false → Legs scene d)
    → HasLegs stage scene d signal
staged_legs (stages.Asked rung) scene x d signal h first legs = first rung refl
staged_legs (stages.Cancelling sent) scene x d signal h first legs = absurd h
staged_legs (stages.Answered interval) scene x d signal h first legs = legs refl
staged_legs stages.Settled scene x d signal h first legs = legs refl
staged_legs (stages.Reasked rung cancelled) scene x d signal h first legs = legs refl
staged_legs (stages.Reanswered interval) scene x d signal h first legs = legs refl
staged_legs stages.Updating scene x d signal h first legs = legs refl
staged_legs (stages.Ending interval) scene x d signal h first legs = legs refl

pub has_legs : (s : Office) (e : Setting) (w : ComingValue) (place : ℕ) (c : StandingCall) (description : Option Description) (begun : List Transaction) (t : List Datagram) (n : Standing) (d : Call) (signal : Signal) → KnowsLegs s
    → IsShownAt s begun t place c n d → FitsComing c w.leg → signal ≢ signals.UnfitAnswer → HasLegs n.stage (scene_at s e w c description) d signal
has_legs s e w place c description begun t n d signal knows h fits other =
    let sound = all_at HasSoundLegs s.calls.calls place c knows.dialogs.calls h.there in
    let left = all_at HasNumbersLeft s.calls.calls place c knows.left h.there in
    let has = all_at HasCallee s.calls.calls place c knows.callees.calls h.there in
    staged_legs n.stage (scene_at s e w c description) n.offerer d signal (is_at s.table.slots begun t c n d h.stands h.shows) (λ rung is. none_asked rung (scene_at s e w c description) d signal other)
    (λ answered. legs_there s e w c description n d sound left has h.shows.legs fits h.stands answered)
