-- The row of a 2xx with an answer that fits the open offer of a call: what it sends.
use Rattle.std.proofs.Common.{◌≡◌, ◌∙◌, ℕ, true, false, not, List, [], ◌∷◌, Option, Some, None, Ok, option_map, refl, ap, sym, subst}
use Rattle.std.specs.List.{All}
use Rattle.std.specs.Option.{option_copied}
use Rattle.std.specs.Prelude.{IsTrue, slice_get}
use Rattle.std.proofs.lemmas.Bool.{false≢true}
use Rattle.sip_message.specs.Read.{message_of}
use Rattle.sip_message.specs.Words.{class_of}
use Rattle.sip_message.specs.declared.message.Message.TheVariants as Kinds
use Rattle.sip_message.specs.declared.message.Response.{Response}
use Rattle.sip_message.specs.declared.words.Class.TheVariants.{Success}
use Rattle.sdp.specs.declared.description.Description.{Description}
use Rattle.offer_answer.specs.Alike.{Alike}
use Rattle.transactions.specs.Slots.{at}
use Rattle.transactions.specs.declared.transaction.Transaction.{Transaction}
use Rattle.call_media.specs.Answers.{answer_sent}
use Rattle.call_media.specs.Ends.{other}
use Rattle.call_media.specs.declared.session.OpenOffer.{OpenOffer}
use Rattle.call_core.specs.Asked.{asked_row}
use Rattle.call_core.specs.CallRows.{call_row, is_fit}
use Rattle.call_core.specs.Calls.{awaits_answer, holds_in}
use Rattle.call_core.specs.Plans.{Step}
use Rattle.call_core.specs.Reasked.{reasked_row}
use Rattle.call_core.specs.Rows.{first_interval, wait_time}
use Rattle.call_core.specs.Table.{row_in, row_of}
use Rattle.call_core.specs.Updating.{updating_row}
use Rattle.call_core.specs.declared.action.Action.TheVariants.{Set, Stop}
use Rattle.call_core.specs.declared.action.CallTimer.TheVariants as timers
use Rattle.call_core.specs.declared.input.Input.{Input}
use Rattle.call_core.specs.declared.input.Input.TheVariants as inputs
use Rattle.call_core.specs.declared.signal.Signal.TheVariants as signals
use Rattle.call_core.specs.declared.stage.Stage.{Stage}
use Rattle.call_core.specs.declared.stage.Stage.TheVariants as stages
use Rattle.call_core.specs.declared.stage.Standing.{Standing}
use Rattle.call_rules.specs.Content.{described}
use Rattle.call_steps.specs.Rows.{answers_leg, messages_of}
use Rattle.call_steps.specs.Values.{ComingValue, lent, without_offer}
use Rattle.calls.specs.declared.standing_call.StandingCall.{StandingCall}
use Rattle.events.specs.declared.sent.Sent.{Sent}
use Rattle.call_messages.specs.declared.scene.Scene.{Scene}
use Rattle.plans.specs.CallRows.{occasion}
use Rattle.plans.specs.Office.{Office}
use Rattle.plans.specs.declared.setting.Setting.{Setting}
use Rattle.event_rows.specs.Rows.{is_unreachable_message}
use Rattle.call_trace.specs.declared.call.Call.{Call}
use Rattle.call_trace.specs.declared.call.Offer.{Offer}
use Rattle.call_trace.specs.declared.datagram.Datagram.{Datagram}
use Rattle.call_trace.specs.declared.datagram.Message.{Message}
use Rattle.call_trace.specs.Lives.{Stands}
use Rattle.call_trace.specs.Messages.{invite, is_method, offering, update}
use Rattle.call_trace.specs.Stands.{CallStands}
use Rattle.call_trace.proofs.Members.{all_at}
use Rattle.trace_reading.specs.Message.{trace_message}
use Rattle.message_laws.specs.OpenRequests.{HasAsked}
use Rattle.message_laws.proofs.QuietEvents.Describing.{BodiesDescribe}
use Rattle.message_laws.proofs.Messages.ReadBack.{SentIsRead}
use Rattle.message_laws.proofs.TokenUse.Rows.{answered_client}
use Rattle.message_laws.proofs.Traces.Comings.{answer_comes}
use Rattle.message_laws.specs.Messages.{AreMessages, IsTakenOf}
use Rattle.media_laws.specs.Afterwards.{HasSpot}
use Rattle.media_laws.specs.Coming.{scene_at}
use Rattle.media_laws.specs.FitSteps.{IsFitStep}
use Rattle.media_laws.specs.Heard.{HearsActions}
use Rattle.media_laws.specs.Lines.{HasLegs, IsAt, actions_in}
use Rattle.media_laws.specs.Listing.{is_listed_stage}
use Rattle.media_laws.specs.Responding.{RespondsToOffer}
use Rattle.media_laws.specs.Scenes.{LegIn}
use Rattle.media_laws.specs.Shows.{ShowsOffer, ShowsOpen, ShowsStage}
use Rattle.media_laws.specs.Taking.{IsShownAt, KnowsLegs, TakesSignal}
use Rattle.media_laws.specs.Ties.{AreTied}
use Rattle.media_laws.proofs.OfferPairs.FirstAnswers.{ReadingLaws, success_signals}
use Rattle.media_laws.proofs.Scenes.FitSteps.{fit_row}
use Rattle.media_laws.proofs.EndTags.HeardSteps.{step_heard}
use Rattle.media_laws.proofs.Scenes.ListedStages.{stage_shown}
use Rattle.media_laws.proofs.Scenes.Reading.{Reading}
use Rattle.media_laws.proofs.OfferPairs.Responses.{went_is}
use Rattle.media_laws.proofs.OtherCalls.Spots.{has_spot}
use Rattle.media_laws.proofs.OfferPairs.Taking.{sets_none, stops_none}
use Rattle.step_laws.specs.Answers.{PassesAnswer}
use Rattle.step_laws.proofs.FitAnswers.{asker_there, invite_passes, update_passes}

-- a stage that awaits an answer is listed
pub awaiting_listed : (stage : Stage) → awaits_answer stage ≡ true → is_listed_stage stage ≡ true
awaiting_listed (stages.Asked rung) waits = refl
awaiting_listed (stages.Cancelling sent) waits = absurd (false≢true waits)
awaiting_listed (stages.Answered interval) waits = refl
awaiting_listed stages.Settled waits = refl
awaiting_listed (stages.Reasked rung cancelled) waits = refl
awaiting_listed (stages.Reanswered interval) waits = refl
awaiting_listed stages.Updating waits = refl
awaiting_listed (stages.Ending interval) waits = refl

module _ (reads : Reading) (laws : ReadingLaws) (describes : BodiesDescribe) (law : SentIsRead) (s : Office) (begun : List Transaction) (sent : List Sent) (t : List Datagram) (old : List Call) (k : ℕ) (tied : AreTied s begun sent t old) (requests : All (HasAsked begun) s.calls.calls) (trace_stands : Stands offering old k t) (knows : KnowsLegs s) (e : Setting) (place : ℕ) (c : StandingCall) (n : Standing) (there : slice_get s.calls.calls place ≡ Some c) (stands : c.call.standing ≡ Some n) (waits : awaits_answer n.stage ≡ true) (bytes : List ℕ) (r : Response) (read : message_of bytes ≡ Ok (Kinds.Response r)) (id : ℕ) (x : Transaction) (to : RespondsToOffer s r id x c) (reaches : is_unreachable_message (Kinds.Response r) ≡ false) (class : class_of r.status ≡ Success) (offered : Transaction) (came : at s.table.slots c.asked.id ≡ Some offered) (fit : is_fit c.call c.call.media.offer (described r.headers r.body) ≡ true) where
  abbrev input : Input
  input = inputs.Answer (described r.headers r.body)

  abbrev step : Step
  step = call_row c.call input s.calls.pool e.now

  abbrev w : ComingValue
  w = without_offer (answers_leg s.calls.calls place x.parts r) None

  abbrev scene : Scene
  scene = scene_at s e w c step.description

  abbrev taken : Option Message
  taken = Some (trace_message bytes (Kinds.Response r))

  took : IsTakenOf bytes taken
  took = record { message = Kinds.Response r; reads = laws.reading.message bytes (Kinds.Response r) read; seen = refl }

  spot : HasSpot s.table.slots begun t s.calls.calls old place c
  spot = has_spot s.table.slots begun t s.calls.calls old place c tied.listed requests there (ap (holds_in is_listed_stage) stands ∙ awaiting_listed n.stage waits)

  shown : IsShownAt s begun t place c n spot.call
  shown = record { there = there; stands = stands; shows = spot.shows }

  call_stands : CallStands offering t spot.call
  call_stands = all_at (CallStands offering t) old spot.place_there spot.call trace_stands.sessions.stand spot.there

  signal : TakesSignal n scene spot.call taken signals.UnfitAnswer
  signal = success_signals laws s e place c step.description begun sent t n spot.call r id x bytes taken knows tied.tokens tied.waiting tied.trace shown call_stands to read reaches took class

  abbrev fits : IsFitStep c.call n (described r.headers r.body) step
  fits = fit_row c.call n s.calls.pool e.now (described r.headers r.body) stands waits fit

  -- ---- the method of its request

  method_is : (name : List ℕ) → ShowsOpen s.table.slots begun t name c n.offerer c.call.media.offer spot.call → x.parts.cseq.method ≡ name
  method_is name shows =
      let p : (p : Offer) × ShowsOffer s.table.slots begun t name c n.offerer fits.offer spot.call p = subst (λ (o : Option OpenOffer). ShowsOpen s.table.slots begun t name c n.offerer o spot.call) fits.open_is shows in
      sym (went_is laws.replies s place c begun sent t n spot.call r id x bytes taken tied.tokens tied.trace shown to read took p.0 p.1.open_is).method ∙ p.1.method

  -- ---- what it sends

  module _ (alike : Alike fits.answer (answer_sent c.call.media fits.offer fits.answer)) where
    abbrev Passes : List Message → Type 0
    Passes ms = PassesAnswer x offered fits.answer ms

    says : option_copied scene.description ≡ Some (answer_sent c.call.media fits.offer fits.answer)
    says = ap (λ (o : Option Description). option_copied (option_map lent o)) fits.description

    stage_passes : (stage : Stage) → awaits_answer stage ≡ true → IsAt n.offerer stage spot.call → HasLegs stage scene spot.call signals.UnfitAnswer → ShowsStage s.table.slots begun t c n stage spot.call → (ms : List Message)
        → HearsActions scene s.tokens (actions_in (row_in stage n.offerer signals.FitAnswer)) ms → Passes ms
    unfolding asked_row reasked_row updating_row
    stage_passes (stages.Asked rung) waits at legs shows ms hears =
        invite_passes scene c x offered (asker_there s e w c step.description offered refl came) fits.answer (answer_sent c.call.media fits.offer fits.answer) says alike (other n.offerer) n.offerer legs.callee
        (subst (λ end. LegIn scene (other end) legs.callee) (sym shows.2) legs.leg) (subst (λ v. IsTrue (is_method invite v)) (sym (method_is invite shows.3)) refl) s.tokens (Stop timers.Limit ∷ Set timers.Repeat first_interval ∷ Set timers.Wait wait_time ∷ [])
        ((λ count. stops_none scene count timers.Limit), ((λ count. sets_none scene count timers.Repeat first_interval), ((λ count. sets_none scene count timers.Wait wait_time), tt))) ms hears
    stage_passes (stages.Cancelling sent) waits at legs shows ms hears = absurd (false≢true waits)
    stage_passes (stages.Answered interval) waits at legs shows ms hears = absurd (false≢true waits)
    stage_passes stages.Settled waits at legs shows ms hears = absurd (false≢true waits)
    stage_passes (stages.Reasked rung cancelled) waits at legs shows ms hears =
        invite_passes scene c x offered (asker_there s e w c step.description offered refl came) fits.answer (answer_sent c.call.media fits.offer fits.answer) says alike (other n.offerer) n.offerer _
        (legs (other n.offerer)) (subst (λ v. IsTrue (is_method invite v)) (sym (method_is invite shows.1)) refl) s.tokens (Stop timers.Limit ∷ Set timers.Repeat first_interval ∷ Set timers.Wait wait_time ∷ [])
        ((λ count. stops_none scene count timers.Limit), ((λ count. sets_none scene count timers.Repeat first_interval), ((λ count. sets_none scene count timers.Wait wait_time), tt))) ms hears
    stage_passes (stages.Reanswered interval) waits at legs shows ms hears = absurd (false≢true waits)
    stage_passes stages.Updating waits at legs shows ms hears =
        update_passes scene c x offered (asker_there s e w c step.description offered refl came) fits.answer (answer_sent c.call.media fits.offer fits.answer) says alike n.offerer
        (subst (λ v. IsTrue (not (is_method invite v))) (sym (method_is update shows.1)) refl) s.tokens ms hears
    stage_passes (stages.Ending interval) waits at legs shows ms hears = absurd (false≢true waits)

    pub answer_passes : (ms : List Message) → AreMessages (messages_of s.table (occasion s e) w c step).dressed.sends ms → Passes ms
    unfolding row_of
    answer_passes ms are =
        let client = answered_client r.parts x to.answers in
        let heard = step_heard reads describes law s e place c input w tied.scenes there (answer_comes describes laws.reading s bytes r id place x tied.scenes read to.there client) ms are in
        let hears = subst (λ actions. HearsActions scene s.tokens actions ms) fits.actions heard in
        stage_passes n.stage waits signal.at signal.legs (stage_shown s.table.slots begun t c n spot.call stands spot.shows) ms hears
