-- An answer that a call passes on settles the offer that is open in the trace: the first one, and later ones to an
-- INVITE or to an UPDATE.
use Rattle.std.proofs.Common.{◌≡◌, ◌∙◌, ℕ, ◌+◌, ◌≤◌, ◌<◌, ◌^◌, Bool, true, false, ◌&&◌, is_some, not, List, Option, Some, None, Ok, option_map, refl, ap, sym, subst, arith}
use Rattle.std.specs.Prelude.{IsTrue, slice_get, slice_set}
use Rattle.std.specs.Option.{option_copied}
use Rattle.std.proofs.lemmas.Bool.{and_parts, false≢true}
use Rattle.std.proofs.lemmas.Option.{same_Some}
use Rattle.sip_message.specs.Read.{message_of}
use Rattle.sip_message.specs.declared.message.Message.TheVariants as Kinds
use Rattle.sip_message.specs.declared.message.Response.{Response}
use Rattle.transactions.specs.declared.transaction.Transaction.{Transaction}
use Rattle.call_core.specs.Asked.{asked_row}
use Rattle.call_core.specs.CallRows.{call_row}
use Rattle.call_core.specs.Calls.{awaits_answer}
use Rattle.call_core.specs.Plans.{Step}
use Rattle.call_core.specs.Reasked.{reasked_row}
use Rattle.call_core.specs.Table.{row_in, row_of}
use Rattle.call_core.specs.Updating.{updating_row}
use Rattle.call_core.specs.declared.input.Input.{Input}
use Rattle.call_core.specs.declared.input.Input.TheVariants as inputs
use Rattle.call_core.specs.declared.signal.Signal.TheVariants as signals
use Rattle.call_core.specs.declared.stage.Cancelled.{Cancelled}
use Rattle.call_core.specs.declared.stage.Stage.{Stage}
use Rattle.call_core.specs.declared.stage.Stage.TheVariants as stages
use Rattle.call_core.specs.declared.stage.Standing.{Standing}
use Rattle.call_media.specs.Answers.{answer_sent}
use Rattle.call_media.specs.Ends.{other}
use Rattle.call_media.specs.declared.end.End.TheVariants.{Caller}
use Rattle.call_media.specs.declared.session.OpenOffer.{OpenOffer}
use Rattle.call_media.specs.declared.session.Session.{Session}
use Rattle.call_rules.specs.Content.{described}
use Rattle.call_steps.specs.Rows.{answers_leg}
use Rattle.call_steps.specs.Values.{ComingValue, lent, without_offer}
use Rattle.call_steps.specs.declared.messages.StepMessages.{StepMessages}
use Rattle.calls.specs.Carrying.{offerer_of}
use Rattle.calls.specs.declared.standing_call.StandingCall.{StandingCall}
use Rattle.events.specs.declared.sent.Sent.{Sent}
use Rattle.call_messages.specs.declared.scene.Scene.{Scene}
use Rattle.plans.specs.Office.{Office}
use Rattle.plans.specs.declared.setting.Setting.{Setting}
use Rattle.sdp.specs.declared.description.Description.{Description}
use Rattle.call_trace.specs.declared.call.Call.{Call}
use Rattle.call_trace.specs.declared.call.Offer.{Offer}
use Rattle.call_trace.specs.declared.call.Stage.TheVariants as traces
use Rattle.call_trace.specs.declared.datagram.Datagram.{Datagram}
use Rattle.call_trace.specs.declared.datagram.Dialog.{Dialog}
use Rattle.call_trace.specs.declared.datagram.Message.{Message}
use Rattle.call_trace.specs.Messages.{Replies, asks, invite, is_listed, is_request, is_success, offering, update}
use Rattle.call_trace.specs.Moves.{Move, settled_first, settled_later, tagged}
use Rattle.call_trace.specs.Stands.{CallStands, HasTags, leg}
use Rattle.trace_reading.specs.Message.{trace_message}
use Rattle.message_laws.specs.CalleeDialogs.{is_unanswered}
use Rattle.message_laws.proofs.Messages.ReadBodies.{description_seen}
use Rattle.media_laws.specs.Ties.{AreTied}
use Rattle.media_laws.proofs.Scenes.ReadTexts.{taken_is}
use Rattle.media_laws.specs.Coming.{FitsComing, scene_at}
use Rattle.media_laws.specs.Going.{put_as}
use Rattle.media_laws.proofs.Scenes.Askers.{asker_in_scene, offer_names}
use Rattle.media_laws.proofs.Scenes.GoingOn.{first_legs, legs_go_on}
use Rattle.media_laws.specs.Responding.{RespondsToOffer}
use Rattle.media_laws.specs.Taking.{IsShownAt}
use Rattle.media_laws.proofs.Scenes.ListedStages.{stage_shown}
use Rattle.media_laws.proofs.OfferPairs.Responses.{went_is}
use Rattle.media_laws.specs.Heard.{HearsActions}
use Rattle.media_laws.specs.Inputs.{TookSuccess}
use Rattle.media_laws.specs.Lines.{FirstLeg, HasLegs, IsAt, Legs, actions_in}
use Rattle.media_laws.specs.Listing.{first}
use Rattle.media_laws.specs.Said.{Accepts}
use Rattle.media_laws.specs.Scenes.{AskerIn, LegIn}
use Rattle.media_laws.specs.Shows.{IsUnanswered, ShowsListing, ShowsOffer, ShowsLegs, ShowsOpen, ShowsStage, is_caller, session_of, settled_of}
use Rattle.media_laws.proofs.OfferPairs.FitLines.{asked_fit, reasked_fit, update_fit}
use Rattle.media_laws.proofs.Scenes.Reading.{Reading}
use Rattle.media_laws.proofs.CallLines.Stages.{other_is}
use Rattle.message_laws.specs.Messages.{IsRequestOf, IsTakenOf}
use Rattle.message_laws.proofs.Traces.Taking.{ReplyLaw}
use Rattle.media_laws.specs.FitSteps.{IsFitStep, session_with}
use Rattle.media_laws.proofs.EndTags.FirstLegs.{first_comes, tagged_in}

-- the move by which the trace's call at this place settles as this session, and shows the legs of this call
pub record Settles (t : List Datagram) (old : List Call) (place : ℕ) (x : Session) (new : StandingCall) (taken : Option Message) (sent : List Message) : Type 0 where
  pub call : Call
  pub move : Move offering t old taken sent (slice_set old place call)
  pub legs : ShowsLegs new call
  pub settled : call.stage ≡ traces.Answered (settled_of x)
  pub none : call.offer ≡ None

-- its method may carry an offer
listed_in : (m : Message) → IsTrue (asks offering m && is_some m.description) → IsTrue (is_listed offering m.method)
listed_in m h = (and_parts (is_request m.kind) (is_listed offering m.method) (and_parts (asks offering m) (is_some m.description) h).0).1

module _ (reads : Reading) (replies : ReplyLaw) (s : Office) (e : Setting) (place : ℕ) (c : StandingCall) (n : Standing) (begun : List Transaction) (sent : List Sent) (t : List Datagram) (old : List Call) (j : ℕ) (d : Call) (at_d : slice_get old j ≡ Some d) (h : IsShownAt s begun t place c n d) (tied : AreTied s begun sent t old) (call_stands : CallStands offering t d) (tags : HasTags d) (bytes : List ℕ) (r : Response) (id : ℕ) (x : Transaction) (taken : Option Message) (to : RespondsToOffer s r id x c) (read : message_of bytes ≡ Ok (Kinds.Response r)) (took : IsTakenOf bytes taken) (success : TookSuccess taken d) (waits : awaits_answer n.stage ≡ true) (fits : IsFitStep c.call n (described r.headers r.body) (call_row c.call (inputs.Answer (described r.headers r.body)) s.calls.pool e.now)) (said : StepMessages) where
  abbrev input : Input
  input = inputs.Answer (described r.headers r.body)

  abbrev step : Step
  step = call_row c.call input s.calls.pool e.now

  abbrev w : ComingValue
  w = without_offer (answers_leg s.calls.calls place x.parts r) None

  abbrev scene : Scene
  scene = scene_at s e w c step.description

  abbrev new : StandingCall
  new = put_as w said step.call c

  abbrev came : Message
  came = trace_message bytes (Kinds.Response r)

  abbrev z : Session
  z = session_with c.call fits.offer fits.answer

  abbrev Settle : List Message → Type 0
  Settle ms = Settles t old j z new (Some came) ms

  -- ---- the exchange

  message_is : success.final.message ≡ came
  message_is = same_Some success.final.message came (sym success.final.is ∙ taken_is bytes (Kinds.Response r) taken read took)

  accepts : (p : Offer) → d.offer ≡ Some p → Accepts p (session_of z) came
  accepts p opened = record {
    success = subst (λ (y : Message). IsTrue (is_success y.kind)) message_is (subst (λ kind. IsTrue (is_success kind)) (sym success.final.kind) success.success);
    said = description_seen bytes (Kinds.Response r) ∙ fits.said;
    replies = subst (λ (y : Message). Replies y p.went) message_is (success.final.replies p opened);
  }

  said_in : option_copied scene.description ≡ Some (answer_sent c.call.media fits.offer fits.answer)
  said_in = ap (λ (o : Option Description). option_copied (option_map lent o)) fits.description

  offer_shown : (name : List ℕ) → ShowsOpen s.table.slots begun t name c n.offerer c.call.media.offer d → (p : Offer) × ShowsOffer s.table.slots begun t name c n.offerer fits.offer d p
  offer_shown name shows = subst (λ (o : Option OpenOffer). ShowsOpen s.table.slots begun t name c n.offerer o d) fits.open_is shows

  few : s.tokens + 1 < 2 ^ 64
  few = omega (arith, tied.scenes.few)

  none_more : s.tokens ≤ s.tokens
  none_more = omega arith

  module _ (name : List ℕ) (p : Offer) (offer : ShowsOffer s.table.slots begun t name c n.offerer fits.offer d p) where
    listed_came : IsTrue (is_listed offering p.came.method)
    listed_came = listed_in p.came (call_stands.offer p offer.open_is).4.offer_came

    asker : AskerIn scene (leg d p.by_caller) p
    asker =
        asker_in_scene s e w place c step.description begun t name n fits.offer d p tied.scenes.askers h.there h.stands waits refl h.shows.legs offer
        (offer_names s.table.slots begun t c n d p waits call_stands tags offer.open_is (stage_shown s.table.slots begun t c n d h.stands h.shows))

    request : IsRequestOf x.parts p.went
    request = went_is replies s place c begun sent t n d r id x bytes taken tied.tokens tied.trace h to read took p offer.open_is

  -- ---- the first answer

  first_settles : (rung : Bool) → ShowsListing s.table.slots begun t c n.offerer first d → FirstLeg scene d → (ms : List Message) → HearsActions scene s.tokens (actions_in (asked_row rung n.offerer signals.FitAnswer)) ms → Settle ms
  first_settles rung shows made ms hears =
      let q = offer_shown invite shows.3 in
      let p = q.0 in
      let offer = q.1 in
      let by : p.by_caller ≡ true = (call_stands.first shows.0 p offer.open_is).by_caller in
      let offered = (call_stands.offer p offer.open_is).4 in
      let side : leg d (not p.by_caller) ≡ d.callee = ap (λ b. leg d (not b)) by in
      let call_id = offered.went_call ∙ ap (λ (y : Dialog). y.call_id) side in
      let ours = offered.went_from ∙ ap (λ (y : Dialog). y.ours) side in
      let offerer : offerer_of c.call.standing ≡ Caller = ap offerer_of h.stands ∙ shows.2 in
      let comes = first_comes s e place c step.description d x.parts bytes r h.there offerer shows.1 made in
      let callee = tagged_in s e place c step.description d x.parts bytes r h.there offerer shows.1 made p (request invite p offer) call_id ours in
      record {
        call = settled_first d came.to_tag (session_of z);
        move = asked_fit reads s.tokens t tied.trace.tokens tied.trace.read old j d at_d scene s.tokens none_more few p offer.open_is (session_of z) came (accepts p offer.open_is) said_in (listed_came invite p offer) offer.taken offer.sent
            rung n.offerer shows.0 (subst (λ b. AskerIn scene (leg d b) p) by (asker invite p offer)) (subst (λ b. IsUnanswered t (leg d b).ours p.came.number) by offer.unanswered)
            (subst (λ end. LegIn scene end (tagged d.callee came.to_tag)) (ap other (sym shows.2)) callee) ms hears;
        legs = first_legs w said c input s.calls.pool e.now d (settled_first d came.to_tag (session_of z)) p x.parts bytes r comes.target h.shows.legs comes.is (request invite p offer) call_id ours refl refl;
        settled = ap (λ b. traces.Answered (record { by_caller = b; session = session_of z })) (ap is_caller (sym (offer.same ∙ shows.2)));
        none = refl;
      }

  -- ---- a later one

  module _ (coming : FitsComing c w.leg) where
    later_settles : (p : Offer) → p.by_caller ≡ is_caller z.offerer → (ms : List Message) → Move offering t old (Some came) ms (slice_set old j (settled_later d p.by_caller (session_of z))) → Settle ms
    later_settles p by ms move =
        let legs = legs_go_on w said c input s.calls.pool e.now d coming h.shows.legs in
        record {
          call = settled_later d p.by_caller (session_of z);
          move = move;
          legs = record { caller = legs.caller; callee = legs.callee };
          settled = ap (λ b. traces.Answered (record { by_caller = b; session = session_of z })) by;
          none = refl;
        }

    invite_settles : (rung : Bool) (cancelled : Cancelled) → IsAt n.offerer (stages.Reasked rung cancelled) d → ShowsOpen s.table.slots begun t invite c n.offerer c.call.media.offer d → Legs scene d → (ms : List Message)
        → HearsActions scene s.tokens (actions_in (reasked_row rung cancelled n.offerer signals.FitAnswer)) ms → Settle ms
    invite_settles rung cancelled at shows legs ms hears =
        let q = offer_shown invite shows in
        let p = q.0 in
        let offer = q.1 in
        later_settles p (offer.by ∙ ap is_caller (sym offer.same)) ms
        (reasked_fit reads s.tokens t tied.trace.tokens tied.trace.read old j d at_d scene s.tokens none_more few p offer.open_is (session_of z) came (accepts p offer.open_is) said_in (listed_came invite p offer) offer.taken offer.sent
        at.answered.settled at.answered.stage (asker invite p offer) offer.unanswered rung cancelled n.offerer offer.method
        (subst (λ b. LegIn scene (other n.offerer) (leg d b)) (other_is n.offerer ∙ ap not (sym offer.by)) (legs (other n.offerer))) ms hears)

    update_settles : IsAt n.offerer stages.Updating d → ShowsOpen s.table.slots begun t update c n.offerer c.call.media.offer d → (ms : List Message)
        → HearsActions scene s.tokens (actions_in (updating_row n.offerer signals.FitAnswer)) ms → Settle ms
    update_settles at shows ms hears =
        let q = offer_shown update shows in
        let p = q.0 in
        let offer = q.1 in
        later_settles p (offer.by ∙ ap is_caller (sym offer.same)) ms
        (update_fit reads s.tokens t tied.trace.tokens tied.trace.read old j d at_d scene s.tokens none_more few p offer.open_is (session_of z) came (accepts p offer.open_is) said_in (listed_came update p offer) offer.taken offer.sent
        at.answered.settled at.answered.stage (asker update p offer) offer.unanswered n.offerer offer.method ms hears)

  -- ---- by the stage

  stage_settles : (stage : Stage) → awaits_answer stage ≡ true → (is_unanswered stage ≡ false → FitsComing c w.leg) → IsAt n.offerer stage d → HasLegs stage scene d signals.UnfitAnswer → ShowsStage s.table.slots begun t c n stage d
      → (ms : List Message) → HearsActions scene s.tokens (actions_in (row_in stage n.offerer signals.FitAnswer)) ms → Settle ms
  stage_settles (stages.Asked rung) waits coming at legs shows ms hears = first_settles rung shows legs ms hears
  stage_settles (stages.Cancelling sent) waits coming at legs shows ms hears = absurd at
  stage_settles (stages.Answered interval) waits coming at legs shows ms hears = absurd (false≢true waits)
  stage_settles stages.Settled waits coming at legs shows ms hears = absurd (false≢true waits)
  stage_settles (stages.Reasked rung cancelled) waits coming at legs shows ms hears = invite_settles (coming refl) rung cancelled at shows.1 legs ms hears
  stage_settles (stages.Reanswered interval) waits coming at legs shows ms hears = absurd (false≢true waits)
  stage_settles stages.Updating waits coming at legs shows ms hears = update_settles (coming refl) at shows.1 ms hears
  stage_settles (stages.Ending interval) waits coming at legs shows ms hears = absurd (false≢true waits)

  pub settles : (is_unanswered n.stage ≡ false → FitsComing c w.leg) → IsAt n.offerer n.stage d → HasLegs n.stage scene d signals.UnfitAnswer → (ms : List Message)
      → HearsActions scene s.tokens (actions_in (row_of n signals.FitAnswer)) ms → Settle ms
  unfolding row_of
  settles coming at legs ms hears = stage_settles n.stage waits coming at legs (stage_shown s.table.slots begun t c n d h.stands h.shows) ms hears
