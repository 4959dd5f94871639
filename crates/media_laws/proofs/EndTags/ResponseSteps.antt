-- A response that a call takes, early or of a refusal: what it does is a move, and the trace's calls show the server's
-- afterwards.
use Rattle.std.proofs.Common.{◌≡◌, ◌⊎◌, ◌∙◌, ℕ, Bool, true, false, List, ◌++◌, Option, Some, None, Ok, refl, sym, ap, subst, inl, inr, not, ◌&&◌}
use Rattle.std.specs.Prelude.{IsTrue, nat_lt, slice_get}
use Rattle.std.proofs.lemmas.Bool.{false≢true, ltb-false, ltb-true}
use Rattle.std.proofs.lemmas.Option.{same_Some}
use Rattle.events.specs.declared.sent.Sent.{Sent}
use Rattle.sip_message.specs.Read.{message_of}
use Rattle.sip_message.specs.declared.message.Message.TheVariants as Kinds
use Rattle.sip_message.specs.declared.message.Response.{Response}
use Rattle.sip_message.specs.Words.{class_of}
use Rattle.sip_message.specs.declared.words.Class.TheVariants as classes
use Rattle.transactions.specs.Contents.{reception_of}
use Rattle.transactions.specs.declared.change.Entry.{Entry}
use Rattle.transactions.specs.declared.transaction.Transaction.{Transaction}
use Rattle.event_rows.specs.Rows.{is_unreachable_message}
use Rattle.call_core.specs.CallRows.{call_row, is_fit}
use Rattle.call_rules.specs.Content.{described}
use Rattle.call_core.specs.Calls.{holds_in}
use Rattle.call_core.specs.Asked.{asked_row}
use Rattle.call_core.specs.Table.{row_in, row_of}
use Rattle.call_core.specs.declared.input.Input.{Input}
use Rattle.call_core.specs.declared.input.Input.TheVariants as inputs
use Rattle.call_core.specs.declared.signal.Signal.{Signal}
use Rattle.call_core.specs.declared.signal.Signal.TheVariants as signals
use Rattle.call_core.specs.declared.stage.Stage.{Stage}
use Rattle.call_core.specs.declared.stage.Stage.TheVariants.{Answered, Asked, Cancelling, Ending, Reanswered, Reasked, Settled, Updating}
use Rattle.call_core.specs.declared.stage.Standing.{Standing}
use Rattle.call_steps.specs.Rows.{answers_leg, takes_row}
use Rattle.call_steps.specs.Values.{without_offer}
use Rattle.calls.specs.declared.change.LegDialog.{LegDialog}
use Rattle.calls.specs.declared.standing_call.StandingCall.{StandingCall}
use Rattle.plans.specs.CallRows.{occasion, takes}
use Rattle.plans.specs.Effect.{Effect}
use Rattle.plans.specs.Office.{Office}
use Rattle.plans.specs.Plan.{goes}
use Rattle.plans.specs.declared.setting.Setting.{Setting}
use Rattle.call_trace.specs.declared.call.Call.{Call}
use Rattle.call_trace.specs.declared.datagram.Datagram.{Datagram}
use Rattle.call_trace.specs.declared.datagram.Message.{Message}
use Rattle.call_trace.specs.Events.{NoneAsked, passed}
use Rattle.call_trace.specs.Lives.{Stands}
use Rattle.call_trace.specs.Messages.{asks, is_listed, is_request, offering}
use Rattle.call_trace.specs.Moves.{Move}
use Rattle.call_trace.specs.Stands.{AllApart, CallStands}
use Rattle.call_trace.proofs.Members.{all_at}
use Rattle.trace_reading.specs.Message.{trace_message}
use Rattle.message_laws.proofs.Askers.AskerRows.{class_by, failure_by}
use Rattle.message_laws.proofs.QuietEvents.Describing.{BodiesDescribe}
use Rattle.message_laws.proofs.Messages.ReadParts.{response_status}
use Rattle.message_laws.specs.CalleeDialogs.{is_unanswered}
use Rattle.message_laws.specs.Waiting.{KnowsWaiting}
use Rattle.message_laws.proofs.Messages.ReadBack.{SentIsRead}
use Rattle.message_laws.proofs.StandingCalls.Reading.{Reading as ReadsNames}
use Rattle.message_laws.specs.Comings.{CanCome}
use Rattle.message_laws.proofs.Traces.Comings.{alone_comes, answer_comes}
use Rattle.media_laws.specs.Responding.{RespondsToOffer}
use Rattle.media_laws.specs.Taking.{IsShownAt, KnowsLegs, TakesSignal}
use Rattle.message_laws.proofs.Traces.Taking.{ReplyLaw}
use Rattle.message_laws.proofs.TokenUse.Rows.{answered_client}
use Rattle.media_laws.proofs.OfferPairs.FirstAnswers.{ReadingLaws, later_fits, success_signals}
use Rattle.media_laws.proofs.OfferPairs.Responses.{refusal_signals, ringing_signals}
use Rattle.media_laws.specs.Coming.{FitsComing, scene_at}
use Rattle.media_laws.specs.Lines.{next_in}
use Rattle.message_laws.specs.Messages.{AreMessages, IsTakenOf}
use Rattle.media_laws.specs.Inputs.{is_bye_signal}
use Rattle.media_laws.specs.Listing.{is_listed as is_listed_call, is_listed_stage}
use Rattle.media_laws.specs.Shows.{ShowsCall}
use Rattle.media_laws.specs.Afterwards.{HasSpot}
use Rattle.media_laws.proofs.Scenes.HeardActions.{split}
use Rattle.media_laws.proofs.OtherCalls.Spots.{has_spot}
use Rattle.media_laws.proofs.Scenes.Reading.{Reading}
use Rattle.media_laws.specs.Ties.{AreTied}
use Rattle.media_laws.proofs.Copies.EventMoves.{sends_are_idle}
use Rattle.media_laws.proofs.Scenes.ReadTexts.{taken_is}
use Rattle.media_laws.proofs.Copies.SeenResponses.{sees_kind}
use Rattle.media_laws.specs.Steps.{GoOn, IsAfter, IsSignalOf, StandsShown}
use Rattle.media_laws.proofs.CallLines.Again.{again_none}
use Rattle.media_laws.proofs.EndTags.Takes.{fits_or_gone}

-- a response asks nothing
asks_nothing : (m : Message) → is_request m.kind ≡ false → IsTrue (not (asks offering m))
asks_nothing m e = ap (λ b. not (b && is_listed offering m.method)) e

none_asked : (bytes : List ℕ) (r : Response) (taken : Option Message) → message_of bytes ≡ Ok (Kinds.Response r) → IsTakenOf bytes taken → NoneAsked offering taken
none_asked bytes r taken read took m is =
    let same : trace_message bytes (Kinds.Response r) ≡ m = same_Some (trace_message bytes (Kinds.Response r)) m (sym (taken_is bytes (Kinds.Response r) taken read took) ∙ is) in
    subst (λ (x : Message). IsTrue (not (asks offering x))) same (asks_nothing (trace_message bytes (Kinds.Response r)) (ap is_request (sees_kind bytes r)))

-- at the first 2xx, where it is not fit, the call is gone
asked_gone : (n : Standing) (rung : Bool) → n.stage ≡ Asked rung → next_in n (row_of n signals.UnfitAnswer) ≡ None
unfolding row_of asked_row
asked_gone n rung is = subst (λ stage. next_in n (row_in stage n.offerer signals.UnfitAnswer) ≡ None) (sym is) refl

module _ (reads : Reading) (names : ReadsNames) (describes : BodiesDescribe) (law : SentIsRead) (keep : (k : ℕ) (t : List Datagram) (old new : List Call) (taken : Option Message) (sent : List Message) → Move offering t old taken sent new → Stands offering old k t → AllApart new) (s after : Office) (begun more : List Transaction) (sent : List Sent) (t : List Datagram) (old : List Call) (k : ℕ) (before : StandsShown s begun t old k) (later : IsAfter s after (begun ++ more)) (tied : AreTied s begun sent t old) (knows : KnowsLegs s) (e : Setting) (place : ℕ) (c : StandingCall) (n : Standing) (entries : List Entry) (there : slice_get s.calls.calls place ≡ Some c) (stands : c.call.standing ≡ Some n) (listed : is_listed_call c ≡ true) (bytes : List ℕ) (r : Response) (taken : Option Message) (read : message_of bytes ≡ Ok (Kinds.Response r)) (took : IsTakenOf bytes taken) where
  abbrev GoesOn : Input → Option ℕ → Option LegDialog → Type 0
  GoesOn input acked leg = (x : Effect) → x ≡ takes s e entries (reception_of s.table (Kinds.Response r)).send acked place input leg → (ms : List Message) → AreMessages x.plan.sends ms → after.calls.calls ≡ x.calls.standing.calls
      → GoOn (ShowsCall after.table.slots (begun ++ more) (t ++ passed k taken ms)) after.calls.calls t old taken ms

  -- with the earlier dialog, or where the call is gone then
  by_response : (input : Input) (signal : Signal) (acked : Option ℕ) (leg : Option LegDialog) → IsSignalOf c.call input signal → CanCome input (without_offer leg None) → is_bye_signal signal ≡ false
      → FitsComing c leg ⊎ (next_in n (row_of n signal) ≡ None)
      → ((d : Call) (j : ℕ) → slice_get old j ≡ Some d → ShowsCall s.table.slots begun t c d → TakesSignal n (scene_at s e (without_offer leg None) c (call_row c.call input s.calls.pool e.now).description) d taken signal) → GoesOn input acked leg
  by_response input signal acked leg is can other fits comes x eq ms are calls =
      let sends = (takes_row s.calls s.table (occasion s e) place input leg None).dressed.sends in
      let p = split (goes (reception_of s.table (Kinds.Response r)).send) sends ms (subst (λ (y : Effect). AreMessages y.plan.sends ms) eq are) in
      subst (λ l. GoOn (ShowsCall after.table.slots (begun ++ more) (t ++ passed k taken l)) after.calls.calls t old taken l) (sym p.whole)
      (fits_or_gone reads describes law keep s after begun more t old k before later e place c n input signal leg None there stands listed is can taken p.first p.rest
      (sends_are_idle reads names s begun sent t old tied bytes r taken p.first read took p.of_first) (λ bye. absurd (false≢true (sym other ∙ bye)))
      (again_none reads s begun sent t taken tied.trace tied.again (none_asked bytes r taken read took) e (without_offer leg None) place c (call_row c.call input s.calls.pool e.now).description n.offerer there) comes fits p.of_rest
      (calls ∙ ap (λ (y : Effect). y.calls.standing.calls) eq))

  shown : (d : Call) → ShowsCall s.table.slots begun t c d → IsShownAt s begun t place c n d
  shown d shows = record { there = there; stands = stands; shows = shows }

  -- ringing
  pub ringing_goes_on : class_of r.status ≡ classes.Provisional → GoesOn (inputs.Provisional r.status) None None
  ringing_goes_on class =
      by_response (inputs.Provisional r.status) (signals.Provisional r.status) None None refl
      (alone_comes (inputs.Provisional r.status) ((response_status bytes r read).low, ltb-true r.status 200 (class_by (nat_lt r.status 200) (nat_lt r.status 300) class)) refl tt) refl (inl tt)
      (λ d j at shows. ringing_signals s e place c (call_row c.call (inputs.Provisional r.status) s.calls.pool e.now).description begun t n d r bytes taken knows (shown d shows) read took class)

  -- a refusal of the request of the open offer
  pub refusal_goes_on : ReplyLaw → (id : ℕ) (x : Transaction) → RespondsToOffer s r id x c → class_of r.status ≡ classes.Failure → GoesOn (inputs.Refusal r.status) None None
  refusal_goes_on replies id x to class =
      by_response (inputs.Refusal r.status) (signals.Refusal r.status) None None refl
      (alone_comes (inputs.Refusal r.status) (ltb-false r.status 300 (failure_by (nat_lt r.status 200) (nat_lt r.status 300) class), (response_status bytes r read).high) refl tt) refl (inl tt)
      (λ d j at shows. refusal_signals replies s e place c (call_row c.call (inputs.Refusal r.status) s.calls.pool e.now).description begun sent t n d r id x bytes taken knows tied.tokens tied.trace (shown d shows) to read took class)

  -- a 2xx to it that is not fit: the first one, at which the call goes, and a later one
  staged : is_listed_stage n.stage ≡ true
  staged = sym (ap (holds_in is_listed_stage) stands) ∙ listed

  spot : HasSpot s.table.slots begun t s.calls.calls old place c
  spot = has_spot s.table.slots begun t s.calls.calls old place c before.listed before.asked there listed

  module _ (laws : ReadingLaws) (waiting : KnowsWaiting s) (id : ℕ) (x : Transaction) (to : RespondsToOffer s r id x c) (reached : is_unreachable_message (Kinds.Response r) ≡ false) (class : class_of r.status ≡ classes.Success) where
    fits_later : is_unanswered n.stage ≡ false → FitsComing c (answers_leg s.calls.calls place x.parts r)
    fits_later answered =
        later_fits laws s e place c None begun sent t n spot.call r id x bytes taken knows tied.tokens waiting tied.trace (shown spot.call spot.shows) (all_at (CallStands offering t) old spot.place_there spot.call before.stands.sessions.stand spot.there) to read reached took class answered

    unfit_goes : (stage : Stage) → n.stage ≡ stage → FitsComing c (answers_leg s.calls.calls place x.parts r) ⊎ (next_in n (row_of n signals.UnfitAnswer) ≡ None)
    unfit_goes (Asked rung) is = inr (asked_gone n rung is)
    unfit_goes (Cancelling sent) is = absurd (false≢true (sym (ap is_listed_stage is) ∙ staged))
    unfit_goes (Answered interval) is = inl (fits_later (ap is_unanswered is))
    unfit_goes Settled is = inl (fits_later (ap is_unanswered is))
    unfit_goes (Reasked rung cancelled) is = inl (fits_later (ap is_unanswered is))
    unfit_goes (Reanswered interval) is = inl (fits_later (ap is_unanswered is))
    unfit_goes Updating is = inl (fits_later (ap is_unanswered is))
    unfit_goes (Ending interval) is = inl (fits_later (ap is_unanswered is))

    pub unfit_goes_on : is_fit c.call c.call.media.offer (described r.headers r.body) ≡ false → GoesOn (inputs.Answer (described r.headers r.body)) (Some id) (answers_leg s.calls.calls place x.parts r)
    unfit_goes_on unfit =
        by_response (inputs.Answer (described r.headers r.body)) signals.UnfitAnswer (Some id) (answers_leg s.calls.calls place x.parts r) (unfit, refl)
        (answer_comes describes names s bytes r id place x before.scenes read to.there (answered_client r.parts x to.answers)) refl (unfit_goes n.stage refl)
        (λ d j at shows. success_signals laws s e place c (call_row c.call (inputs.Answer (described r.headers r.body)) s.calls.pool e.now).description begun sent t n d r id x bytes taken knows tied.tokens waiting tied.trace (shown d shows)
        (all_at (CallStands offering t) old j d before.stands.sessions.stand at) to read reached took class)
