-- A fit answer that a call takes is a move, and the trace's calls show the server's afterwards.
use Rattle.std.proofs.Common.{◌≡◌, ◌∙◌, ℕ, true, false, cond, is_some, List, ◌++◌, Option, Some, None, Ok, ap, sym, subst}
use Rattle.std.specs.Prelude.{remove, slice_get, slice_set}
use Rattle.event_rows.specs.Rows.{is_unreachable_message}
use Rattle.events.specs.declared.sent.Sent.{Sent}
use Rattle.sip_message.specs.Contact.{contacts_of}
use Rattle.sip_message.specs.Read.{message_of}
use Rattle.sip_message.specs.Words.{class_of}
use Rattle.sip_message.specs.declared.message.Message.TheVariants as Kinds
use Rattle.sip_message.specs.declared.message.Response.{Response}
use Rattle.sip_message.specs.declared.words.Class.TheVariants.{Success}
use Rattle.dialogs.specs.Making.{reached_at}
use Rattle.transactions.specs.Contents.{reception_of}
use Rattle.transactions.specs.declared.change.Entry.{Entry}
use Rattle.transactions.specs.declared.outcome.Outgoing.{Outgoing}
use Rattle.transactions.specs.declared.transaction.Transaction.{Transaction}
use Rattle.call_core.specs.CallRows.{call_row, is_fit}
use Rattle.call_core.specs.Calls.{holds_in}
use Rattle.call_core.specs.Plans.{Step}
use Rattle.call_core.specs.Table.{row_of}
use Rattle.call_core.specs.declared.input.Input.{Input}
use Rattle.call_core.specs.declared.input.Input.TheVariants as inputs
use Rattle.call_core.specs.declared.signal.Signal.TheVariants as signals
use Rattle.call_core.specs.declared.stage.Standing.{Standing}
use Rattle.call_media.specs.Ends.{other}
use Rattle.call_media.specs.declared.session.Session.{Session as CallSession}
use Rattle.call_rules.specs.Content.{described}
use Rattle.call_steps.specs.Rows.{answers_leg, messages_of, takes_by, takes_row}
use Rattle.call_steps.specs.Values.{ComingValue, without_offer}
use Rattle.call_steps.specs.declared.messages.StepMessages.{StepMessages}
use Rattle.calls.specs.Carrying.{offerer_of}
use Rattle.calls.specs.declared.standing_call.StandingCall.{StandingCall}
use Rattle.call_messages.specs.declared.scene.Scene.{Scene}
use Rattle.plans.specs.CallRows.{occasion, takes}
use Rattle.plans.specs.Effect.{Effect}
use Rattle.plans.specs.Office.{Office}
use Rattle.plans.specs.Plan.{goes}
use Rattle.plans.specs.declared.setting.Setting.{Setting}
use Rattle.call_trace.specs.declared.call.Call.{Call}
use Rattle.call_trace.specs.declared.datagram.Datagram.{Datagram}
use Rattle.call_trace.specs.declared.datagram.Message.{Message}
use Rattle.call_trace.specs.Events.{passed}
use Rattle.call_trace.specs.Lives.{Stands}
use Rattle.call_trace.specs.Messages.{offering}
use Rattle.call_trace.specs.Moves.{Move}
use Rattle.call_trace.specs.Stands.{AllApart, CallStands, HasTags}
use Rattle.call_trace.proofs.Members.{all_at}
use Rattle.message_laws.specs.CalleeDialogs.{HasCallee, is_unanswered}
use Rattle.message_laws.specs.Sound.{HasSoundLegs, IsTargetIf}
use Rattle.message_laws.proofs.Askers.AskedCalls.{at_place}
use Rattle.message_laws.proofs.QuietEvents.Describing.{BodiesDescribe}
use Rattle.message_laws.proofs.StandingCalls.Reaching.{response_may_offer, response_reached}
use Rattle.message_laws.proofs.Messages.ReadBack.{SentIsRead}
use Rattle.message_laws.proofs.StandingCalls.Reading.{reached_target}
use Rattle.message_laws.proofs.TokenUse.Rows.{answered_client}
use Rattle.message_laws.proofs.Traces.Comings.{answer_comes}
use Rattle.media_laws.specs.Ties.{AreTied}
use Rattle.media_laws.proofs.Scenes.ReadTexts.{taken_is}
use Rattle.media_laws.specs.Coming.{FitsComing, scene_at}
use Rattle.media_laws.specs.Going.{put_as}
use Rattle.media_laws.proofs.Scenes.Fitting.{answers_fits}
use Rattle.media_laws.proofs.Scenes.GoingOn.{stands_by}
use Rattle.media_laws.specs.Steps.{GoOn, IsAfter, StandsShown}
use Rattle.media_laws.proofs.EndTags.HeardSteps.{step_heard}
use Rattle.media_laws.proofs.CallLines.OwnCall.{is_shown, stage_listed}
use Rattle.media_laws.specs.Responding.{RespondsToOffer}
use Rattle.media_laws.specs.Taking.{IsShownAt, KnowsLegs, TakesSignal}
use Rattle.media_laws.proofs.OfferPairs.FirstAnswers.{ReadingLaws, success_signals}
use Rattle.media_laws.proofs.Scenes.ListedStages.{dialog_there}
use Rattle.media_laws.specs.Afterwards.{HasSpot, IsLeftOr}
use Rattle.media_laws.specs.Heard.{HearsActions}
use Rattle.media_laws.specs.Lines.{next_in}
use Rattle.media_laws.specs.Listing.{Listed, is_listed as is_listed_call, is_listed_stage}
use Rattle.media_laws.specs.Shows.{ShowsCall, ShowsListing, ShowsSettled, ShowsStanding}
use Rattle.media_laws.proofs.OtherCalls.Afterwards.{one_listed}
use Rattle.media_laws.proofs.Scenes.Reading.{Reading}
use Rattle.media_laws.proofs.OtherCalls.Spots.{has_spot}
use Rattle.message_laws.specs.Messages.{AreMessages, IsTakenOf}
use Rattle.media_laws.specs.FitSteps.{IsFitStep, Talks, session_with}
use Rattle.media_laws.proofs.Scenes.FitSteps.{fit_row, fit_talks}
use Rattle.media_laws.proofs.EndTags.SettledOffers.{Settles, settles}
use Rattle.media_laws.proofs.Scenes.Silence.{success_silent}

-- the list of calls that a step leaves, where the call goes on
list_after : (cs : List StandingCall) (place : ℕ) (new : StandingCall) (standing : Option Standing) (m : Standing) → standing ≡ Some m → cond (is_some standing) (slice_set cs place new) (remove cs place) ≡ slice_set cs place new
list_after cs place new standing m is = ap (λ (o : Option Standing). cond (is_some o) (slice_set cs place new) (remove cs place)) is

module _ (reads : Reading) (laws : ReadingLaws) (describes : BodiesDescribe) (law : SentIsRead) (keep : (k : ℕ) (t : List Datagram) (old new : List Call) (taken : Option Message) (sent : List Message) → Move offering t old taken sent new → Stands offering old k t → AllApart new) (s after : Office) (begun more : List Transaction) (sent : List Sent) (t : List Datagram) (old : List Call) (k : ℕ) (before : StandsShown s begun t old k) (later : IsAfter s after (begun ++ more)) (tied : AreTied s begun sent t old) (knows : KnowsLegs s) (e : Setting) (place : ℕ) (c : StandingCall) (n : Standing) (entries : List Entry) (there : slice_get s.calls.calls place ≡ Some c) (stands : c.call.standing ≡ Some n) (listed : is_listed_call c ≡ true) (bytes : List ℕ) (r : Response) (taken : Option Message) (read : message_of bytes ≡ Ok (Kinds.Response r)) (took : IsTakenOf bytes taken) (id : ℕ) (x : Transaction) (to : RespondsToOffer s r id x c) (reaches : is_unreachable_message (Kinds.Response r) ≡ false) (class : class_of r.status ≡ Success) (fit : is_fit c.call c.call.media.offer (described r.headers r.body) ≡ true) where
  abbrev input : Input
  input = inputs.Answer (described r.headers r.body)

  abbrev step : Step
  step = call_row c.call input s.calls.pool e.now

  abbrev w : ComingValue
  w = without_offer (answers_leg s.calls.calls place x.parts r) None

  abbrev said : StepMessages
  said = messages_of s.table (occasion s e) w c step

  abbrev scene : Scene
  scene = scene_at s e w c step.description

  abbrev new : StandingCall
  new = put_as w said step.call c

  spot : HasSpot s.table.slots begun t s.calls.calls old place c
  spot = has_spot s.table.slots begun t s.calls.calls old place c before.listed before.asked there listed

  shown : IsShownAt s begun t place c n spot.call
  shown = record { there = there; stands = stands; shows = spot.shows }

  call_stands : CallStands offering t spot.call
  call_stands = all_at (CallStands offering t) old spot.place_there spot.call before.stands.sessions.stand spot.there

  tags : HasTags spot.call
  tags = all_at HasTags old spot.place_there spot.call before.stands.sessions.tags spot.there

  signal : TakesSignal n scene spot.call taken signals.UnfitAnswer
  signal = success_signals laws s e place c step.description begun sent t n spot.call r id x bytes taken knows tied.tokens tied.waiting tied.trace shown call_stands to read reaches took class

  fits : IsFitStep c.call n (described r.headers r.body) step
  fits = fit_row c.call n s.calls.pool e.now (described r.headers r.body) stands signal.awaited fit

  talks : Talks (next_in n (row_of n signals.FitAnswer))
  talks = fit_talks n signal.awaited

  -- the dialog that comes with a later answer is the call's own
  coming : is_unanswered n.stage ≡ false → FitsComing c w.leg
  coming answered =
      let old_dialog = dialog_there c n (other (offerer_of c.call.standing)) (at_place HasCallee s.calls.calls place c knows.callees.calls there) stands answered in
      let target : IsTargetIf (reached_at (contacts_of r.headers)) = reached_target laws.reading r.parts r.headers (response_may_offer r.parts x to.answers to.offers) (response_reached r reaches class) in
      answers_fits s.calls.calls place x.parts r c old_dialog.0 there (at_place HasSoundLegs s.calls.calls place c knows.dialogs.calls there) target old_dialog.1

  -- ---- the calls afterwards

  abbrev Shows : List Datagram → StandingCall → Call → Type 0
  Shows passed_now = ShowsCall after.table.slots (begun ++ more) (t ++ passed_now)

  abbrev session : CallSession
  session = session_with c.call fits.offer fits.answer

  at_new : new.call.standing ≡ Some talks.standing
  at_new = (stands_by w said step.call c).standing ∙ (fits.next ∙ talks.is)

  own_shown : (ms : List Message) (y : Settles t old spot.place_there session new taken ms) → Shows (passed k taken ms) new y.call
  own_shown ms y = record {
    legs = y.legs;
    standing = subst (λ o. ShowsStanding after.table.slots (begun ++ more) (t ++ passed k taken ms) new o y.call) (sym at_new)
        (subst (λ l. ShowsListing after.table.slots (begun ++ more) (t ++ passed k taken ms) new talks.standing.offerer l y.call) (sym talks.listed)
        (subst (λ o. ShowsSettled o y.call.stage) (sym ((stands_by w said step.call c).session ∙ fits.session)) y.settled, y.none));
  }

  goes_on : (ms : List Message) → Settles t old spot.place_there session new taken ms → after.calls.calls ≡ slice_set s.calls.calls place new
      → GoOn (Shows (passed k taken ms)) after.calls.calls t old taken ms
  goes_on ms y calls =
      let moved = slice_set old spot.place_there y.call in
      let is : is_listed_call new ≡ true = ap (holds_in is_listed_stage) at_new ∙ (stage_listed talks.standing.stage ∙ ap is_shown talks.listed) in (
        moved,
        y.move,
        one_listed s.table.slots after begun more k t old taken ms moved y.move (keep k t old moved taken ms y.move before.stands) later.numbers later.keeps new y.call (own_shown ms y)
            (subst (λ l. Listed (IsLeftOr s.table.slots begun t new y.call) l moved) (sym calls) (spot.goes_on new y.call is)),
      )

  -- ---- the event

  answer_settles : (ms : List Message) → AreMessages said.dressed.sends ms → Settles t old spot.place_there session new taken ms
  answer_settles ms are =
      let client = answered_client r.parts x to.answers in
      let heard = step_heard reads describes law s e place c input w before.scenes there (answer_comes describes laws.reading s bytes r id place x before.scenes read to.there client) ms are in
      let hears = subst (λ actions. HearsActions scene s.tokens actions ms) fits.actions heard in
      subst (λ o. Settles t old spot.place_there session new o ms) (sym (taken_is bytes (Kinds.Response r) taken read took))
      (settles reads laws.replies s e place c n begun sent t old spot.place_there spot.call spot.there shown tied call_stands tags bytes r id x taken to read took signal.took signal.awaited fits said coming signal.at signal.legs ms hears)

  by_step : (ms : List Message) → AreMessages said.dressed.sends ms → after.calls.calls ≡ cond (is_some step.call.standing) (slice_set s.calls.calls place new) (remove s.calls.calls place)
      → GoOn (Shows (passed k taken ms)) after.calls.calls t old taken ms
  by_step ms are calls = goes_on ms (answer_settles ms are) (calls ∙ list_after s.calls.calls place new step.call.standing talks.standing (fits.next ∙ talks.is))

  by_row : (ms : List Message) → AreMessages (takes_row s.calls s.table (occasion s e) place input w.leg None).dressed.sends ms
      → after.calls.calls ≡ (takes_row s.calls s.table (occasion s e) place input w.leg None).outcome.standing.calls → GoOn (Shows (passed k taken ms)) after.calls.calls t old taken ms
  unfolding takes_row
  by_row ms are calls =
      by_step ms (subst (λ o. AreMessages (takes_by s.calls s.table (occasion s e) place input w.leg None o).dressed.sends ms) there are)
      (calls ∙ ap (λ o. (takes_by s.calls s.table (occasion s e) place input w.leg None o).outcome.standing.calls) there)

  pub answer_goes_on : (effect : Effect) → effect ≡ takes s e entries (reception_of s.table (Kinds.Response r)).send (Some id) place input w.leg → (ms : List Message) → AreMessages effect.plan.sends ms
      → after.calls.calls ≡ effect.calls.standing.calls → GoOn (Shows (passed k taken ms)) after.calls.calls t old taken ms
  answer_goes_on effect eq ms are calls =
      let sends = (takes_row s.calls s.table (occasion s e) place input w.leg None).dressed.sends in
      let silent = success_silent s.table r class in
      by_row ms (subst (λ (o : Option Outgoing). AreMessages (goes o ++ sends) ms) silent (subst (λ (y : Effect). AreMessages y.plan.sends ms) eq are))
      (calls ∙ ap (λ (y : Effect). y.calls.standing.calls) eq)
