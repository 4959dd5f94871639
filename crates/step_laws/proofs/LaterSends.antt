-- An offer inside a call that is passed on: what the call sends, and that this matches.
use Rattle.std.proofs.Common.{◌≡◌, ◌∙◌, ◌++◌, ℕ, ◌+◌, ◌<◌, ◌^◌, ◌≤◌, Bool, true, false, cond, is_some, List, [], ◌∷◌, codes, Option, Some, None, Ok, refl, ap, sym, subst, arith}
use Rattle.std.specs.List.{All}
use Rattle.std.specs.Option.{option_copied}
use Rattle.std.specs.Prelude.{remove, slice_get, slice_set}
use Rattle.sip_uri.specs.Address.{address_of}
use Rattle.dialogs.specs.Counting.{method_text}
use Rattle.dialogs.specs.declared.state.Dialog.{Dialog as LegDialog}
use Rattle.sip_message.specs.Read.{message_of}
use Rattle.sip_message.specs.declared.message.Message.TheVariants as Kinds
use Rattle.sip_message.specs.declared.message.Request.{Request}
use Rattle.sdp.specs.declared.description.Description.{Description}
use Rattle.offer_answer.specs.Alike.{Alike}
use Rattle.call_media.specs.Ends.{other}
use Rattle.call_media.specs.Offers.{opened}
use Rattle.call_media.specs.declared.end.End.{End}
use Rattle.call_media.specs.declared.session.OpenOffer.{OpenOffer}
use Rattle.call_core.specs.Calls.{dialog_of, has_number_left, holds_in}
use Rattle.call_core.specs.Plans.{Step}
use Rattle.call_core.specs.Settled.{settled_row}
use Rattle.call_core.specs.declared.signal.OfferMethod.{OfferMethod}
use Rattle.call_core.specs.declared.signal.OfferMethod.TheVariants.{Invite, Update}
use Rattle.call_core.specs.declared.signal.Signal.TheVariants as signals
use Rattle.call_core.specs.declared.stage.Stage.TheVariants as stages
use Rattle.call_core.specs.declared.stage.Standing.{Standing}
use Rattle.call_rules.specs.Speaking.{may_offer}
use Rattle.call_steps.specs.Rows.{does}
use Rattle.call_steps.specs.Messages.{messages}
use Rattle.call_steps.specs.Scenes.{tag_with}
use Rattle.call_steps.specs.Values.{ComingValue, lent_asker}
use Rattle.call_steps.specs.declared.messages.StepMessages.{StepMessages}
use Rattle.calls.specs.declared.standing_call.StandingCall.{StandingCall}
use Rattle.events.specs.declared.sent.Sent.{Sent}
use Rattle.call_messages.specs.Dressing.{dialog_with, dressed, method_of}
use Rattle.call_messages.specs.declared.scene.Scene.{Scene}
use Rattle.plans.specs.CallRows.{occasion, offer_method, passes, with_step}
use Rattle.plans.specs.Effect.{Effect}
use Rattle.plans.specs.Office.{Office}
use Rattle.plans.specs.declared.setting.Setting.{Setting}
use Rattle.responses.specs.Words.{is_method}
use Rattle.transactions.specs.declared.transaction.Transaction.{Transaction}
use Rattle.call_trace.specs.declared.call.Call.{Call}
use Rattle.call_trace.specs.declared.datagram.Datagram.{Datagram}
use Rattle.call_trace.specs.declared.datagram.Dialog.{Dialog}
use Rattle.call_trace.specs.declared.datagram.Message.{Message}
use Rattle.call_trace.specs.Stands.{leg}
use Rattle.trace_reading.specs.Message.{trace_message}
use Rattle.message_laws.specs.Addresses.{IsSource}
use Rattle.message_laws.specs.OpenRequests.{HasAsked}
use Rattle.message_laws.specs.Sound.{HasSoundLegs, IsSoundLegIf}
use Rattle.message_laws.proofs.StandingCalls.SoundCalls.{dialog_sound}
use Rattle.message_laws.proofs.AwaitedOffers.Tagged.{scene_dialog}
use Rattle.message_laws.proofs.AwaitedOffers.Awaiting.{all_at}
use Rattle.message_laws.proofs.AwaitedOffers.Carrying.{lent_text}
use Rattle.message_laws.proofs.QuietEvents.Describing.{BodiesDescribe}
use Rattle.message_laws.proofs.Messages.ReadBack.{SentIsRead}
use Rattle.message_laws.proofs.StandingCalls.Reading.{Reading as ReadsNames}
use Rattle.message_laws.proofs.Traces.Comings.{offer_comes}
use Rattle.message_laws.specs.Serving.{KnowsServing}
use Rattle.message_laws.specs.Messages.{AreMessages}
use Rattle.media_laws.specs.Afterwards.{HasSpot}
use Rattle.media_laws.specs.Beginning.{entries_of}
use Rattle.media_laws.specs.Coming.{scene_at}
use Rattle.media_laws.specs.Heard.{HearsActions}
use Rattle.media_laws.specs.Lines.{actions_in}
use Rattle.media_laws.specs.Listing.{is_listed_stage}
use Rattle.media_laws.specs.Offering.{IsLaterOffer}
use Rattle.media_laws.specs.Said.{OfferHeard}
use Rattle.media_laws.specs.Scenes.{AreOwn, AskedLeg}
use Rattle.media_laws.specs.Shows.{is_caller}
use Rattle.media_laws.specs.Taking.{KnowsLegs}
use Rattle.media_laws.specs.Ties.{AreTied}
use Rattle.media_laws.proofs.Scenes.GoingOn.{stands_by}
use Rattle.media_laws.proofs.EndTags.HeardSteps.{step_heard}
use Rattle.media_laws.proofs.OfferPairs.LaterSteps.{coming, later_call, later_dialog, later_fits, later_line, later_row, later_said, later_settled, later_step, named_by, offer_name, offered, stands_settled}
use Rattle.media_laws.proofs.Scenes.Leaving.{request_of}
use Rattle.media_laws.proofs.Scenes.Legs.{asked_in}
use Rattle.media_laws.proofs.CallLines.LineSteps.{got_set}
use Rattle.media_laws.proofs.OfferPairs.OfferSteps.{IsOfferStep}
use Rattle.media_laws.proofs.Scenes.Reading.{Reading}
use Rattle.media_laws.proofs.OfferPairs.Settling.{invite_offered, update_offered}
use Rattle.media_laws.proofs.OtherCalls.Spots.{has_spot}
use Rattle.step_laws.specs.Leaving.{IsOfDialog}
use Rattle.step_laws.specs.Offers.{GoesAcross, PassesOn, trying_first}
use Rattle.step_laws.specs.Sending.{AllGo, Going, asks, responds}
use Rattle.step_laws.proofs.StepSends.{counts_other}
use Rattle.step_laws.proofs.Telling.{Tells, tells_nothing, then_offer, then_trying}
use Rattle.step_laws.proofs.AlikeOffers.{offer_alike}

-- what is heard of the line by which an offer is passed on
offer_heard : (method : OfferMethod) (made : ℕ) (t : List Datagram) → AreOwn made t → (s : Scene) (tokens : ℕ) → made ≤ tokens → tokens + 2 < 2 ^ 64 → (y : Dialog) (sent : Description) → option_copied s.description ≡ Some sent → (x : End)
    → AskedLeg s (other x) method y → (ms : List Message) → HearsActions s tokens (actions_in (settled_row (signals.Offer x method))) ms → OfferHeard t y (offer_name method) sent ms
unfolding settled_row
offer_heard Invite made t own s tokens old few y sent said x l ms h = invite_offered made t own s tokens old few y sent said x (other x) ms l h
offer_heard Update made t own s tokens old few y sent said x l ms h = update_offered made t own s tokens old few y sent said (other x) ms l h

put_some : (o : Option Standing) (n : Standing) (put gone : List StandingCall) → o ≡ Some n → cond (is_some o) put gone ≡ put
put_some o n put gone is = ap (λ (x : Option Standing). cond (is_some x) put gone) is

module _ (reads : Reading) (names : ReadsNames) (describes : BodiesDescribe) (law : SentIsRead) (s : Office) (begun : List Transaction) (sent : List Sent) (t : List Datagram) (old : List Call) (tied : AreTied s begun sent t old) (requests : All (HasAsked begun) s.calls.calls) (knows : KnowsLegs s) (e : Setting) (from : IsSource e.source) (bytes : List ℕ) (r : Request) (id : ℕ) (read : message_of bytes ≡ Ok (Kinds.Request r)) (may : may_offer r.parts ≡ true) (place : ℕ) (end : End) (c : StandingCall) (offer : Description) (p : IsLaterOffer s r place end c offer) where
  abbrev w : ComingValue
  w = coming names describes s begun sent t old tied knows e bytes r id read place end c offer p

  abbrev step : Step
  step = later_step names describes s begun sent t old tied knows e bytes r id read place end c offer p

  abbrev said : StepMessages
  said = later_said names describes s begun sent t old tied knows e bytes r id read place end c offer p

  abbrev new : StandingCall
  new = later_call names describes s begun sent t old tied knows e bytes r id read place end c offer p

  abbrev came : Message
  came = trace_message bytes (Kinds.Request r)

  abbrev scene : Scene
  scene = scene_at s e w c step.description

  abbrev o : OpenOffer
  o = opened c.call.media s.calls.pool end offer e.now

  line : IsOfferStep c.call end (offer_method r) offer s.calls.pool e.now step
  line = later_line names describes s begun sent t old tied knows e bytes r id read place end c offer p

  -- ---- what it sends

  stood : (n : Standing) × (c.call.standing ≡ Some n) × (n.stage ≡ stages.Settled)
  stood = stands_settled c.call.standing (later_settled names describes s begun sent t old tied knows e bytes r id read place end c offer p)

  spot : HasSpot s.table.slots begun t s.calls.calls old place c
  spot = has_spot s.table.slots begun t s.calls.calls old place c tied.listed requests p.there (ap (holds_in is_listed_stage) stood.1 ∙ ap is_listed_stage stood.2)

  asked_leg : AskedLeg scene (other end) (offer_method r) (leg spot.call (is_caller (other end)))
  asked_leg =
      let there = later_dialog names describes s begun sent t old tied knows e bytes r id read place end c offer p (other end) in
      asked_in s e w c step.description spot.call (other end) (offer_method r) there.0 (all_at HasSoundLegs s.calls.calls place c knows.dialogs.calls p.there) spot.shows.legs
      (later_fits names describes s begun sent t old tied knows e bytes r id read place end c offer p) there.1 p.numbered

  heard : (ms : List Message) → AreMessages said.dressed.sends ms → OfferHeard t (leg spot.call (is_caller (other end))) (offer_name (offer_method r)) o.offer_sent ms
  heard ms are =
      let can = offer_comes describes names s e bytes r id place end c (offer_method r) offer tied.scenes from read p.there p.described in
      let hears = subst (λ actions. HearsActions scene s.tokens actions ms) line.actions (step_heard reads describes law s e place c (offered names describes s begun sent t old tied knows e bytes r id read place end c offer p) w tied.scenes p.there can ms are) in
      offer_heard (offer_method r) s.tokens t tied.trace.tokens scene s.tokens (omega arith) (omega (arith, tied.scenes.few)) (leg spot.call (is_caller (other end))) o.offer_sent (lent_text step.description ∙ line.says) end asked_leg ms hears

  pub passes_on : Alike offer o.offer_sent → (ms : List Message) → AreMessages said.dressed.sends ms → PassesOn came offer ms
  passes_on alike ms are =
      let h = heard ms are in
      let name = (request_of bytes r).method ∙ named_by bytes r read may (is_method (codes "INVITE") r) refl in
      record {
        before = h.before;
        went = h.went;
        whole = h.whole;
        asks = record { request = h.asks.seen.kind; method = h.asks.seen.method ∙ sym name; given = o.offer_sent; said = h.asks.seen.description; alike = alike };
      }

  -- ---- and to whom

  across : (d : LegDialog) × (dialog_of (other end) c.call ≡ Some d)
  across = later_dialog names describes s begun sent t old tied knows e bytes r id read place end c offer p (other end)

  across_there : dialog_with (other end) scene ≡ Some across.0
  across_there = scene_dialog s.table (occasion s e) w c step.description (other end) ∙ (counts_other c s.calls.calls place end r.parts.cseq.number ∙ across.1)

  across_leads : is_some (address_of across.0.target) ≡ true
  across_leads = (subst IsSoundLegIf across.1 (dialog_sound c (other end) (all_at HasSoundLegs s.calls.calls place c knows.dialogs.calls p.there))).leads

  abbrev Asked : Bool → List Going
  Asked invite = cond invite (responds r.parts e.source 100 ∷ []) [] ++ asks across.0 (method_text (method_of (cond invite Invite Update))) ∷ []

  tells : (invite : Bool) → Tells scene (actions_in (settled_row (signals.Offer end (cond invite Invite Update)))) (Asked invite)
  unfolding settled_row
  tells true =
      then_trying scene (lent_asker (record { id = id; parts = r.parts; source = e.source; tag = tag_with end c.call })) end refl
      (then_offer scene (other end) across.0 across_there across_leads Invite o.offer_sent (lent_text step.description ∙ line.says) (subst (λ o. has_number_left o ≡ true) across.1 p.numbered) (tells_nothing scene))
  tells false =
      then_offer scene (other end) across.0 across_there across_leads Update o.offer_sent (lent_text step.description ∙ line.says) (subst (λ o. has_number_left o ≡ true) across.1 p.numbered) (tells_nothing scene)

  text_is : (invite : Bool) → method_text (method_of (cond invite Invite Update)) ≡ offer_name (cond invite Invite Update)
  text_is true = refl
  text_is false = refl

  abbrev what : List Going
  what = trying_first r e.source ++ asks across.0 r.parts.cseq.method ∷ []

  what_is : Asked (is_method (codes "INVITE") r) ≡ what
  what_is =
      ap (λ (name : List ℕ). trying_first r e.source ++ asks across.0 name ∷ [])
      (text_is (is_method (codes "INVITE") r) ∙ sym (named_by bytes r read may (is_method (codes "INVITE") r) refl))

  all_go : (ms : List Message) → AreMessages said.dressed.sends ms → AllGo what said.dressed.sends ms
  unfolding messages
  all_go ms are =
      let can = offer_comes describes names s e bytes r id place end c (offer_method r) offer tied.scenes from read p.there p.described in
      let hears = subst (λ actions. HearsActions scene s.tokens actions ms) line.actions (step_heard reads describes law s e place c (offered names describes s begun sent t old tied knows e bytes r id read place end c offer p) w tied.scenes p.there can ms are) in
      subst (λ (l : List Going). AllGo l said.dressed.sends ms) what_is
      (subst (λ actions. AllGo (Asked (is_method (codes "INVITE") r)) (dressed scene s.tokens actions).sends ms) (sym line.actions) ((tells (is_method (codes "INVITE") r)).each s.tokens ms hears))

  pub goes_across : IsOfDialog r.parts c end → GoesAcross s.calls.calls r e.source (with_step s.acks (entries_of s e r) None None (does s.calls s.table (occasion s e) place w c step))
  goes_across came = record {
    place = place;
    call = c;
    there = p.there;
    end = end;
    came = came;
    across = across.0;
    with_other = across.1;
    sends = record { taken = refl; all = all_go };
  }

  -- ---- the row, and the call afterwards

  abbrev Passes : Effect
  Passes = with_step s.acks (entries_of s e r) None None (does s.calls s.table (occasion s e) place w c step)

  pub passes_row : passes s e r (entries_of s e r) id place end offer ≡ Passes
  passes_row = ap (with_step s.acks (entries_of s e r) None None) (later_row names describes s begun sent t old tied knows e bytes r id read place end c offer p)

  pub passed_alike : (after : Office) → KnowsServing after → after.calls.calls ≡ Passes.calls.standing.calls → Alike offer o.offer_sent
  passed_alike after serving calls =
      let put = calls ∙ put_some step.call.standing _ (slice_set s.calls.calls place new) (remove s.calls.calls place) line.next in
      offer_alike after serving place new (subst (λ l. slice_get l place ≡ Some new) (sym put) (got_set s.calls.calls place c new p.there)) o ((stands_by w said step.call c).offer ∙ line.kept)
