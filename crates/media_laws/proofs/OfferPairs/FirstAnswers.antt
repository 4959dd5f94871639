-- A 2xx, fit or not: the dialog that the first one makes, or that of the call whose other side it reaches (RFC 3261
-- sections 12.1.2 and 12.2.1.2).
use Rattle.std.proofs.Common.{◌≡◌, ◌∙◌, ℕ, Bool, true, false, List, Option, Some, None, Ok, not, refl, ap, subst}
use Rattle.sdp.specs.declared.description.Description.{Description}
use Rattle.sip_message.specs.Read.{message_of}
use Rattle.sip_message.specs.Words.{class_of}
use Rattle.sip_message.specs.declared.message.Message.TheVariants as Kinds
use Rattle.sip_message.specs.declared.message.Response.{Response}
use Rattle.sip_message.specs.declared.words.Class.TheVariants.{Success}
use Rattle.transactions.specs.declared.transaction.Transaction.{Transaction}
use Rattle.call_media.specs.Ends.{other}
use Rattle.call_media.specs.declared.end.End.TheVariants.{Caller}
use Rattle.call_core.specs.declared.signal.Signal.TheVariants as signals
use Rattle.call_core.specs.declared.stage.Stage.TheVariants as stages
use Rattle.call_core.specs.declared.stage.Standing.{Standing}
use Rattle.calls.specs.Carrying.{offerer_of}
use Rattle.calls.specs.declared.standing_call.StandingCall.{StandingCall}
use Rattle.call_steps.specs.Rows.{answers_leg}
use Rattle.call_steps.specs.Values.{ComingValue, without_offer}
use Rattle.events.specs.declared.sent.Sent.{Sent}
use Rattle.plans.specs.Office.{Office}
use Rattle.plans.specs.declared.setting.Setting.{Setting}
use Rattle.event_rows.specs.Rows.{is_unreachable_message}
use Rattle.call_trace.specs.declared.call.Call.{Call}
use Rattle.call_trace.specs.declared.call.Offer.{Offer}
use Rattle.call_trace.specs.declared.datagram.Datagram.{Datagram}
use Rattle.call_trace.specs.declared.datagram.Dialog.{Dialog}
use Rattle.call_trace.specs.declared.datagram.Message.{Message as TraceMessage}
use Rattle.call_trace.specs.Messages.{offering}
use Rattle.call_trace.specs.Moves.{tagged}
use Rattle.call_trace.specs.Stands.{CallStands, leg}
use Rattle.trace_reading.specs.Message.{trace_message}
use Rattle.message_laws.specs.CalleeDialogs.{HasCallee, is_unanswered}
use Rattle.message_laws.specs.Knowing.{KnowsTokens}
use Rattle.message_laws.specs.Sound.{HasSoundLegs, IsTargetIf}
use Rattle.message_laws.specs.Waiting.{KnowsWaiting}
use Rattle.message_laws.proofs.AwaitedOffers.Awaiting.{all_at}
use Rattle.message_laws.proofs.StandingCalls.CalleeRows.{NamesContact}
use Rattle.message_laws.proofs.StandingCalls.Reading.{Reading}
use Rattle.message_laws.specs.KnownTrace.{KnowsTrace}
use Rattle.message_laws.specs.Messages.{IsTakenOf}
use Rattle.message_laws.proofs.Traces.Taking.{ReplyLaw}
use Rattle.media_laws.specs.Lines.{FirstLeg, Legs}
use Rattle.media_laws.specs.Shows.{ShowsStage}
use Rattle.media_laws.specs.Coming.{FitsComing, HasNumbersLeft, scene_at}
use Rattle.media_laws.proofs.Scenes.Fitting.{first_answer}
use Rattle.media_laws.proofs.Scenes.Legs.{first_in}
use Rattle.media_laws.specs.Responding.{RespondsToOffer}
use Rattle.media_laws.specs.Taking.{IsShownAt, KnowsLegs, TakesSignal}
use Rattle.media_laws.proofs.Scenes.ListedStages.{dialog_there, is_at, legs_there, stage_shown, staged_legs}
use Rattle.media_laws.proofs.OfferPairs.OpenOffers.{offer_there}
use Rattle.media_laws.proofs.OfferPairs.ReachedAnswers.{answered_fits, counted, reached, target}
use Rattle.media_laws.proofs.OfferPairs.Responses.{awaited_there, success_taken, went_is}

-- what the laws of reading say
pub record ReadingLaws : Type 0 where
  pub reading : Reading
  pub names : NamesContact
  pub replies : ReplyLaw

module _ (laws : ReadingLaws) (s : Office) (e : Setting) (place : ℕ) (c : StandingCall) (description : Option Description) (begun : List Transaction) (sent : List Sent) (t : List Datagram) (n : Standing) (d : Call) (r : Response) (id : ℕ) (x : Transaction)
    (bytes : List ℕ) (taken : Option TraceMessage) (knows : KnowsLegs s) (tokens : KnowsTokens s) (waiting : KnowsWaiting s) (trace : KnowsTrace s begun sent t) (h : IsShownAt s begun t place c n d) (stands : CallStands offering t d)
    (to : RespondsToOffer s r id x c) (read : message_of bytes ≡ Ok (Kinds.Response r)) (reaches : is_unreachable_message (Kinds.Response r) ≡ false) (took : IsTakenOf bytes taken) (class : class_of r.status ≡ Success) where
  abbrev w : ComingValue
  w = without_offer (answers_leg s.calls.calls place x.parts r) None

  -- ---- a later one

  pub later_fits : is_unanswered n.stage ≡ false → FitsComing c w.leg
  later_fits answered =
      let old = dialog_there c n (other (offerer_of c.call.standing)) (all_at HasCallee s.calls.calls place c knows.callees.calls h.there) h.stands answered in
      answered_fits laws.reading laws.names s place c n r id x bytes knows waiting h.there h.stands to read reaches class old.0 old.1

  later_legs : is_unanswered n.stage ≡ false → Legs (scene_at s e w c description) d
  later_legs answered =
      legs_there s e w c description n d (all_at HasSoundLegs s.calls.calls place c knows.dialogs.calls h.there) (all_at HasNumbersLeft s.calls.calls place c knows.left h.there) (all_at HasCallee s.calls.calls place c knows.callees.calls h.there) h.shows.legs (later_fits answered) h.stands answered

  -- ---- the first one

  -- in the leg of the INVITE, by the trace
  first_leg_of : (p : Offer) → d.offer ≡ Some p → p.by_caller ≡ true → n.offerer ≡ Caller → c.call.callee ≡ None → FirstLeg (scene_at s e w c description) d
  first_leg_of p opened_is by first none =
      let uri = reached laws.reading laws.names s place c n r id x bytes knows waiting h.there h.stands to read reaches class first none in
      let offered = (stands.offer p opened_is).4 in
      let came = first_answer s.calls.calls place x.parts r c uri.0 h.there uri.1 (ap offerer_of h.stands ∙ first) none in
      let side : leg d (not p.by_caller) ≡ d.callee = ap (λ b. leg d (not b)) by in
      record {
        callee = tagged d.callee (trace_message bytes (Kinds.Response r)).to_tag;
        leg = first_in s e w c description d p x.parts bytes r uri.0 none came (subst IsTargetIf uri.1 (target laws.reading laws.names s place c n r id x bytes knows waiting h.there h.stands to read reaches class))
            (counted laws.reading laws.names s place c n r id x bytes knows waiting h.there h.stands to read reaches class first) (went_is laws.replies s place c begun sent t n d r id x bytes taken tokens trace h to read took p opened_is)
            (offered.went_call ∙ ap (λ (y : Dialog). y.call_id) side) (offered.went_from ∙ ap (λ (y : Dialog). y.ours) side);
        ours = refl;
      }

  first_legs : (rung : Bool) → n.stage ≡ stages.Asked rung → FirstLeg (scene_at s e w c description) d
  first_legs rung is =
      let shows = subst (λ stage. ShowsStage s.table.slots begun t c n stage d) is (stage_shown s.table.slots begun t c n d h.stands h.shows) in
      let p = offer_there s.table.slots begun t c d _ n.offerer c.call.media.offer shows.3 in
      first_leg_of p.0 p.1 (stands.first shows.0 p.0 p.1).by_caller shows.2 shows.1

  pub success_signals : TakesSignal n (scene_at s e w c description) d taken signals.UnfitAnswer
  success_signals = record {
    at = is_at s.table.slots begun t c n d h.stands h.shows;
    legs = staged_legs n.stage (scene_at s e w c description) n.offerer d signals.UnfitAnswer (is_at s.table.slots begun t c n d h.stands h.shows) first_legs later_legs;
    took = success_taken laws.replies s place c begun sent t n d r id x bytes taken tokens trace h to read took class;
    awaited = awaited_there laws.replies s place c begun sent t n d r id x bytes taken tokens trace h to read took;
  }
