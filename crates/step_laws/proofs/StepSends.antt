-- What a step of a call sends, and to whom, where the line of its signal is known.
use Rattle.std.proofs.Common.{◌≡◌, ◌∙◌, ℕ, nat_lt, true, false, is_some, List, [], ◌∷◌, ◌++◌, Option, Some, None, refl, ap, sym, subst}
use Rattle.std.specs.Prelude.{slice_get}
use Rattle.std.proofs.lemmas.Bool.{false≢true}
use Rattle.sip_uri.specs.Address.{address_of}
use Rattle.sip_message.specs.Words.{top_branch}
use Rattle.sip_message.specs.declared.message.Request.{Request}
use Rattle.sip_message.specs.declared.via.Via.{Via}
use Rattle.dialogs.specs.Counting.{max_for, last_number}
use Rattle.dialogs.specs.declared.method.Method.TheVariants as methods
use Rattle.dialogs.specs.declared.state.Dialog.{Dialog}
use Rattle.transaction_machines.specs.declared.invite_client.InviteClient.{InviteClient as ClientStage}
use Rattle.transaction_machines.specs.declared.state.State.{State}
use Rattle.transaction_machines.specs.declared.state.State.TheVariants.{InviteClient, InviteServer, OtherClient, OtherServer}
use Rattle.transaction_machines.specs.Machines.{is_server}
use Rattle.transactions.specs.SameBranch.{cancel_by, cancel_of, cancel_with, request_like}
use Rattle.transactions.specs.Slots.{at, awaits_final}
use Rattle.transactions.specs.declared.transaction.Transaction.{Transaction}
use Rattle.events.specs.declared.sent.Sent.{Sent}
use Rattle.call_media.specs.Ends.{other}
use Rattle.call_media.specs.declared.end.End.{End}
use Rattle.call_media.specs.declared.end.End.TheVariants.{Caller, Callee}
use Rattle.call_core.specs.CallRows.{call_row}
use Rattle.call_core.specs.Calls.{awaits_answer, dialog_of, holds_in}
use Rattle.call_core.specs.Plans.{Step}
use Rattle.call_core.specs.Table.{row_in, row_of}
use Rattle.call_core.specs.declared.action.Action.{Action}
use Rattle.call_core.specs.declared.input.Input.{Input}
use Rattle.call_core.specs.declared.signal.Signal.{Signal}
use Rattle.call_core.specs.declared.stage.Standing.{Standing}
use Rattle.call_messages.specs.Dressing.{dialog_with, dressed}
use Rattle.call_messages.specs.declared.scene.Scene.{Scene}
use Rattle.call_steps.specs.Messages.{messages}
use Rattle.call_steps.specs.Rows.{counts, counts_by, counts_in, messages_of, takes_by, takes_row}
use Rattle.call_steps.specs.Scenes.{dialog_in}
use Rattle.call_steps.specs.Values.{AskerValue, ComingValue, without_offer}
use Rattle.call_steps.specs.Effects as steps
use Rattle.transactions.specs.declared.change.Entry.{Entry}
use Rattle.transactions.specs.declared.outcome.Outgoing.{Outgoing}
use Rattle.plans.specs.declared.acks.KeptAck.{KeptAck}
use Rattle.plans.specs.Effect.{Effect}
use Rattle.calls.specs.declared.change.LegDialog.{LegDialog}
use Rattle.calls.specs.declared.standing_call.StandingCall.{StandingCall}
use Rattle.call_trace.specs.declared.datagram.Message.{Message}
use Rattle.plans.specs.CallRows.{occasion, with_step}
use Rattle.plans.specs.Office.{Office}
use Rattle.plans.specs.Plan.{goes}
use Rattle.plans.specs.declared.setting.Setting.{Setting}
use Rattle.message_laws.specs.Askers.{IsServed}
use Rattle.message_laws.specs.CalleeDialogs.{FitsStage, HasCallee, is_unanswered}
use Rattle.message_laws.specs.Comings.{CanCome, KnowsScenes}
use Rattle.message_laws.specs.Messages.{AreMessages}
use Rattle.message_laws.specs.Sound.{HasSoundLegs, IsSoundLegIf}
use Rattle.message_laws.proofs.AwaitedOffers.Awaiting.{all_at}
use Rattle.message_laws.proofs.QuietEvents.Describing.{BodiesDescribe}
use Rattle.message_laws.proofs.Messages.ReadBack.{SentIsRead}
use Rattle.message_laws.proofs.StandingCalls.SoundCalls.{dialog_sound}
use Rattle.message_laws.proofs.AwaitedOffers.Tagged.{scene_dialog}
use Rattle.media_laws.specs.Coming.{HasNumbersLeft, scene_at}
use Rattle.media_laws.specs.Heard.{HearsActions}
use Rattle.media_laws.specs.Lines.{actions_in}
use Rattle.media_laws.specs.Steps.{IsSignalOf}
use Rattle.media_laws.proofs.EndTags.HeardSteps.{step_heard}
use Rattle.media_laws.proofs.Scenes.HeardActions.{split}
use Rattle.media_laws.proofs.Scenes.Legs.{number_left}
use Rattle.media_laws.proofs.Scenes.Reading.{Reading}
use Rattle.media_laws.proofs.CallLines.SignalSteps.{signal_row}
use Rattle.step_laws.specs.Sending.{AllGo, Going, Sends}
use Rattle.step_laws.proofs.Telling.{Tells}

-- ---- the dialog with an end, in which something can be sent

pub record Reaches (c : StandingCall) (scene : Scene) (end : End) : Type 0 where
  pub dialog : Dialog
  pub own : dialog_of end c.call ≡ Some dialog
  pub has : dialog_with end scene ≡ Some dialog
  pub leads : is_some (address_of dialog.target) ≡ true
  pub numbered : nat_lt (last_number dialog) (max_for methods.Bye) ≡ true

callee_there : (o : Option Dialog) (n : Standing) → is_unanswered n.stage ≡ false → FitsStage o n → (d : Dialog) × (o ≡ Some d)
callee_there None n answered h = absurd (false≢true (sym answered ∙ h.stage))
callee_there (Some d) n answered h = (d, refl)

-- a call that was answered has a dialog with each end
pub dialog_there : (c : StandingCall) (n : Standing) (end : End) → HasCallee c → c.call.standing ≡ Some n → is_unanswered n.stage ≡ false → (d : Dialog) × (dialog_of end c.call ≡ Some d)
dialog_there c n Caller has stands answered = (c.call.caller, refl)
dialog_there c n Callee has stands answered = callee_there c.call.callee n answered (has n stands)

-- where no other dialog comes for it
pub reaches : (s : Office) (e : Setting) (w : ComingValue) (c : StandingCall) (description : Option _) (n : Standing) (end : End) → HasSoundLegs c → HasNumbersLeft c → HasCallee c → c.call.standing ≡ Some n → is_unanswered n.stage ≡ false
    → dialog_in end w.leg c.call ≡ dialog_of end c.call → Reaches c (scene_at s e w c description) end
reaches s e w c description n end sound left callee stands answered same =
    let there = dialog_there c n end callee stands answered in
    record {
      dialog = there.0;
      own = there.1;
      has = scene_dialog s.table (occasion s e) w c description end ∙ (same ∙ there.1);
      leads = (subst IsSoundLegIf there.1 (dialog_sound c end sound)).leads;
      numbered = number_left c end there.0 left there.1;
    }

-- ---- the dialog with the other end is the call's own

counted_other : (c : StandingCall) (end : End) (number : ℕ) (o : Option Dialog) → dialog_in (other end) (counts_in end number o) c.call ≡ dialog_of (other end) c.call
counted_other c end number None = refl
counted_other c Caller number (Some d) = refl
counted_other c Callee number (Some d) = refl

counted_by_other : (c : StandingCall) (end : End) (number : ℕ) (o : Option StandingCall) → dialog_in (other end) (counts_by end number o) c.call ≡ dialog_of (other end) c.call
counted_by_other c end number None = refl
counted_by_other c end number (Some x) = counted_other c end number (dialog_of end x.call)

pub counts_other : (c : StandingCall) (calls : List StandingCall) (place : ℕ) (end : End) (number : ℕ) → dialog_in (other end) (counts calls place end number) c.call ≡ dialog_of (other end) c.call
unfolding counts
counts_other c calls place end number = counted_by_other c end number (slice_get calls place)

-- ---- the request in which the open offer came

pub offer_came : (s : Office) → KnowsScenes s → (place : ℕ) (c : StandingCall) (n : Standing) → slice_get s.calls.calls place ≡ Some c → c.call.standing ≡ Some n → awaits_answer n.stage ≡ true
    → (t : Transaction) × (at s.table.slots c.asked.id ≡ Some t)
offer_came s scenes place c n there stands waits =
    let h = all_at (IsServed s.table.slots) s.calls.calls place c scenes.askers.offers.served there (ap (holds_in awaits_answer) stands ∙ waits) in
    (h.transaction, h.stands)

-- ---- a step

module _ (reads : Reading) (describes : BodiesDescribe) (law : SentIsRead) (s : Office) (scenes : KnowsScenes s) (e : Setting) (place : ℕ) (c : StandingCall) (there : slice_get s.calls.calls place ≡ Some c) (input : Input) (leg : Option LegDialog) (request : Option AskerValue) (can : CanCome input (without_offer leg request)) where
  abbrev step : Step
  step = call_row c.call input s.calls.pool e.now

  abbrev w : ComingValue
  w = without_offer leg request

  abbrev scene : Scene
  scene = scene_at s e w c step.description

  module _ (actions : List Action) (line : step.actions ≡ actions) (what : List Going) (tells : Tells scene actions what) where
    step_sends : (ms : List Message) → AreMessages (messages_of s.table (occasion s e) w c step).dressed.sends ms → AllGo what (messages_of s.table (occasion s e) w c step).dressed.sends ms
    unfolding messages
    step_sends ms are =
        let heard = step_heard reads describes law s e place c input w scenes there can ms are in
        subst (λ l. AllGo what (dressed scene s.tokens l).sends ms) (sym line) (tells.each s.tokens ms (subst (λ l. HearsActions scene s.tokens l ms) line heard))

    pub line_sends : (ms : List Message) → AreMessages (takes_row s.calls s.table (occasion s e) place input leg request).dressed.sends ms → AllGo what (takes_row s.calls s.table (occasion s e) place input leg request).dressed.sends ms
    unfolding takes_row
    line_sends ms are =
        let sends : (o : Option StandingCall) → List Sent = λ o. (takes_by s.calls s.table (occasion s e) place input leg request o).dressed.sends in
        subst (λ o. AllGo what (sends o) ms) (sym there) (step_sends ms (subst (λ o. AreMessages (sends o) ms) there are))

-- for a signal that is neither an offer nor a fit answer
pub takes_sends : Reading → BodiesDescribe → SentIsRead → (s : Office) → KnowsScenes s → (e : Setting) (place : ℕ) (c : StandingCall) (n : Standing) → slice_get s.calls.calls place ≡ Some c → c.call.standing ≡ Some n → (input : Input) (signal : Signal)
    → IsSignalOf c.call input signal → (leg : Option LegDialog) (request : Option AskerValue) → CanCome input (without_offer leg request) → (what : List Going)
    → Tells (scene_at s e (without_offer leg request) c (call_row c.call input s.calls.pool e.now).description) (actions_in (row_in n.stage n.offerer signal)) what → (ms : List Message)
    → AreMessages (takes_row s.calls s.table (occasion s e) place input leg request).dressed.sends ms → AllGo what (takes_row s.calls s.table (occasion s e) place input leg request).dressed.sends ms
unfolding row_of
takes_sends reads describes law s scenes e place c n there stands input signal is leg request can what tells =
    line_sends reads describes law s scenes e place c there input leg request can (actions_in (row_in n.stage n.offerer signal)) (signal_row c.call n input signal s.calls.pool e.now stands is).actions what tells

-- ---- an event, whose transactions send nothing

pub row_sends : (x : Effect) (acks : List KeptAck) (begun : List Entry) (send : Option Outgoing) (id : Option ℕ) (y : steps.Effect) (what : List Going) → x ≡ with_step acks begun send id y → send ≡ None
    → ((ms : List Message) → AreMessages y.dressed.sends ms → AllGo what y.dressed.sends ms) → Sends what x
row_sends x acks begun send id y what is silent all =
    subst (Sends what) (sym (is ∙ ap (λ o. with_step acks begun o id y) silent)) (record { taken = refl; all = all })

-- ---- an event, whose transactions send something before

all_behind : (first : List Going) (what : List Going) (xs ys : List Sent) (ms ns : List Message) → AllGo first xs ms → AllGo what ys ns → AllGo (first ++ what) (xs ++ ys) (ms ++ ns)
all_behind [] what xs ys ms ns one all = subst (λ l. AllGo what (l ++ ys) (ms ++ ns)) (sym one.0) (subst (λ l. AllGo what ys (l ++ ns)) (sym one.1) all)
all_behind (g ∷ first) what [] ys ms ns one all = absurd one
all_behind (g ∷ first) what (d ∷ xs) ys [] ns one all = absurd one
all_behind (g ∷ first) what (d ∷ xs) ys (m ∷ ms) ns one all = (one.0, all_behind first what xs ys ms ns one.1 all)

pub sends_behind : (x : Effect) (acks : List KeptAck) (begun : List Entry) (send : Option Outgoing) (id : Option ℕ) (y : steps.Effect) (first what : List Going) → x ≡ with_step acks begun send id y
    → ((ms : List Message) → AreMessages (goes send) ms → AllGo first (goes send) ms) → ((ms : List Message) → AreMessages y.dressed.sends ms → AllGo what y.dressed.sends ms) → Sends (first ++ what) x
sends_behind x acks begun send id y first what is before all =
    subst (Sends (first ++ what)) (sym is)
    (record {
      taken = refl;
      all = λ ms are.
          let p = split (goes send) y.dressed.sends ms are in
          subst (AllGo (first ++ what) (goes send ++ y.dressed.sends)) (sym p.whole) (all_behind first what (goes send) y.dressed.sends p.first p.rest (before p.first p.of_first) (all p.rest p.of_rest));
    })

-- ---- the INVITE that a CANCEL names

invite_by : (t : Transaction) (state : State) → awaits_final state ≡ true → (x : ClientStage) × (state ≡ InviteClient x)
invite_by t (InviteClient x) waits = (x, refl)
invite_by t (InviteServer x) waits = absurd (false≢true waits)
invite_by t (OtherClient x) waits = absurd (false≢true waits)
invite_by t (OtherServer x) waits = absurd (false≢true waits)

-- it is a client transaction
pub client_of : (t : Transaction) → awaits_final t.state ≡ true → is_server t.state ≡ false
client_of t waits = ap is_server (invite_by t t.state waits).1

cancel_named : (t : Transaction) (vias : List Via) (branch : List ℕ) → top_branch vias ≡ Some branch → (r : Request) × (cancel_with t.uri t.parts vias ≡ Some r) × (r.uri ≡ t.uri)
unfolding request_like
cancel_named t [] branch has = absurd cc
cancel_named t (via ∷ vias) branch has = (_, refl, refl)

pub cancel_there : (t : Transaction) (branch : List ℕ) → awaits_final t.state ≡ true → top_branch t.parts.vias ≡ Some branch → (r : Request) × (cancel_of t ≡ Some r) × (r.uri ≡ t.uri)
cancel_there t branch waits has =
    let state = invite_by t t.state waits in
    let named = cancel_named t t.parts.vias branch has in
    (named.0, ap (λ x. cancel_by x t.uri t.parts) state.1 ∙ named.1, named.2)
