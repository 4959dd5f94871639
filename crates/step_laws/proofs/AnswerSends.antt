-- A 2xx for which a call waits: what the step sends, whether its answer fits the open offer or not.
use Rattle.std.specs.Prelude.{option_map}
use Rattle.std.specs.Option.{option_copied}
use Rattle.std.proofs.Common.{◌≡◌, ◌∙◌, ℕ, Bool, true, false, nat_lt, is_some, List, [], ◌∷◌, Option, Some, None, refl, ap, sym, subst}
use Rattle.std.proofs.lemmas.Option.{same_Some}
use Rattle.sip_uri.specs.Address.{address_of}
use Rattle.sip_uri.specs.declared.uri.Addr.{Addr}
use Rattle.sip_uri.specs.declared.uri.Uri.{Uri}
use Rattle.sip_message.specs.Contact.{contacts_of}
use Rattle.sip_message.specs.declared.message.Message.TheVariants as Kinds
use Rattle.sip_message.specs.declared.message.Parts.{Parts}
use Rattle.sip_message.specs.declared.message.Response.{Response}
use Rattle.dialogs.specs.Counting.{max_for, last_number}
use Rattle.dialogs.specs.Making.{callers_dialog, reached_at}
use Rattle.dialogs.specs.declared.method.Method.TheVariants as methods
use Rattle.dialogs.specs.declared.state.Dialog.{Dialog as LegDialog}
use Rattle.transactions.specs.Changes.{change_of}
use Rattle.transactions.specs.Contents.{reception_of}
use Rattle.transactions.specs.declared.change.Entry.{Entry}
use Rattle.transactions.specs.declared.transaction.Transaction.{Transaction}
use Rattle.events.specs.declared.event.Event.{Event}
use Rattle.sdp.specs.declared.description.Description.{Description}
use Rattle.call_media.specs.Ends.{other}
use Rattle.call_media.specs.declared.end.End.{End}
use Rattle.call_media.specs.declared.end.End.TheVariants.{Caller, Callee}
use Rattle.call_core.specs.Asked.{asked_row}
use Rattle.call_core.specs.CallRows.{call_row, is_fit}
use Rattle.call_core.specs.Calls.{awaits_answer, dialog_of, holds_in, with_dialog}
use Rattle.call_core.specs.Plans.{Step}
use Rattle.call_core.specs.Reasked.{reasked_row}
use Rattle.call_core.specs.Rows.{first_interval, wait_time}
use Rattle.call_core.specs.Table.{row_in, row_of}
use Rattle.call_core.specs.declared.action.Action.TheVariants.{Answer, PutRows, Set, Stop}
use Rattle.call_core.specs.declared.action.CallTimer.TheVariants as timers
use Rattle.call_core.specs.Updating.{updating_row}
use Rattle.call_core.specs.declared.input.Input.{Input}
use Rattle.call_core.specs.declared.input.Input.TheVariants as inputs
use Rattle.call_core.specs.declared.signal.Signal.{Signal}
use Rattle.call_core.specs.declared.signal.Signal.TheVariants as signals
use Rattle.call_core.specs.declared.stage.Cancelled.{Cancelled}
use Rattle.call_core.specs.declared.stage.Stage.{Stage}
use Rattle.call_core.specs.declared.stage.Stage.TheVariants as stages
use Rattle.call_core.specs.declared.stage.Standing.{Standing}
use Rattle.call_rules.specs.Content.{described}
use Rattle.call_rules.specs.Responses.{response_rule}
use Rattle.call_rules.specs.declared.responses.ResponseRule.TheVariants as rule
use Rattle.call_messages.specs.Dressing.{dialog_with}
use Rattle.call_messages.specs.declared.scene.Asker.{Asker}
use Rattle.call_messages.specs.declared.scene.Scene.{Scene}
use Rattle.call_steps.specs.Rows.{answers_leg, dialog_after, leg_by, takes_row}
use Rattle.call_steps.specs.Scenes.{dialog_in}
use Rattle.call_steps.specs.Values.{ComingValue, without_offer, lent}
use Rattle.calls.specs.Carrying.{offerer_of}
use Rattle.calls.specs.declared.change.LegDialog.{LegDialog as Put}
use Rattle.calls.specs.declared.standing_call.StandingCall.{StandingCall}
use Rattle.plans.specs.CallRows.{occasion, responds_by}
use Rattle.plans.specs.declared.setting.Setting.{Setting}
use Rattle.event_rows.specs.Rows.{row}
use Rattle.event_rows.specs.State.{Contents, office}
use Rattle.call_trace.specs.declared.datagram.Datagram.{Datagram}
use Rattle.call_trace.specs.declared.datagram.Dialog.{Dialog}
use Rattle.call_trace.specs.declared.datagram.Message.{Message}
use Rattle.call_trace.specs.Messages.{offering}
use Rattle.call_trace.specs.Stands.{CallStands}
use Rattle.call_trace.proofs.Members.{all_at}
use Rattle.trace_reading.specs.Message.{trace_message}
use Rattle.message_laws.specs.CalleeDialogs.{HasCallee, is_unanswered}
use Rattle.message_laws.specs.Comings.{CanCome}
use Rattle.message_laws.specs.Messages.{IsTakenOf}
use Rattle.message_laws.proofs.StandingCalls.Asking.{all_asked}
use Rattle.message_laws.proofs.AwaitedOffers.Awaiting.{all_at as call_at}
use Rattle.message_laws.proofs.Traces.Comings.{answer_comes}
use Rattle.message_laws.proofs.QuietEvents.Describing.{BodiesDescribe}
use Rattle.message_laws.proofs.TokenUse.Events.{few_tokens}
use Rattle.message_laws.proofs.Messages.ReadBack.{SentIsRead}
use Rattle.message_laws.proofs.TokenUse.Rows.{answered_client}
use Rattle.message_laws.proofs.AwaitedOffers.Tagged.{scene_dialog}
use Rattle.media_laws.specs.Afterwards.{HasSpot}
use Rattle.media_laws.specs.Coming.{scene_at}
use Rattle.media_laws.specs.FitSteps.{IsFitStep}
use Rattle.media_laws.proofs.Scenes.FitSteps.{fit_row}
use Rattle.media_laws.proofs.CallLines.SignalSteps.{signal_row}
use Rattle.media_laws.proofs.OfferPairs.Taking.{puts_none, sets_none, stops_none}
use Rattle.media_laws.specs.Lines.{HasLegs, Legs, actions_in}
use Rattle.media_laws.specs.Listing.{is_listed_stage}
use Rattle.media_laws.specs.Responding.{RespondsToOffer}
use Rattle.media_laws.specs.Scenes.{LegIn}
use Rattle.media_laws.specs.Shows.{ShowsStage}
use Rattle.media_laws.specs.Standing.{AgentStands}
use Rattle.media_laws.specs.Taking.{IsShownAt, KnowsLegs, TakesSignal}
use Rattle.media_laws.specs.Ties.{AreTied}
use Rattle.media_laws.proofs.OfferPairs.FirstAnswers.{ReadingLaws, success_signals}
use Rattle.media_laws.proofs.Scenes.ListedStages.{stage_shown}
use Rattle.media_laws.proofs.Scenes.Reading.{Reading}
use Rattle.media_laws.proofs.LateResponses.RuleReasons.{Reason, rule_reason}
use Rattle.media_laws.proofs.Scenes.Silence.{success_silent}
use Rattle.media_laws.proofs.OtherCalls.Spots.{has_spot}
use Rattle.step_laws.specs.Answers.{IsFitAnswer, IsUnfit, SendsInside, acknowledges, renewed}
use Rattle.step_laws.specs.Coming.{GoesUp}
use Rattle.step_laws.specs.Leaving.{StandsAt, WithOffer, bye, to_offerer}
use Rattle.step_laws.specs.Sending.{Going, Sends, responds}
use Rattle.step_laws.proofs.ComingRows.{setting_of, up_row}
use Rattle.step_laws.proofs.FitAnswerEvents.{responds_of}
use Rattle.step_laws.proofs.FitAnswerRows.{awaiting_listed}
use Rattle.step_laws.proofs.FitAnswers.{asker_for, asker_there}
use Rattle.step_laws.proofs.GoingUp.{answered_up}
use Rattle.step_laws.proofs.Known.{legs_known, tied_of}
use Rattle.step_laws.proofs.StepSends.{line_sends, dialog_there, offer_came, row_sends}
use Rattle.step_laws.proofs.Telling.{Tells, then_answer, then_silent, tells_nothing, then_ack, then_bye, then_refusal}

-- ---- a dialog in which something can be sent

pub record SendsIn (s : Scene) (end : End) (d : LegDialog) : Type 0 where
  pub has : dialog_with end s ≡ Some d
  pub leads : is_some (address_of d.target) ≡ true
  pub numbered : nat_lt (last_number d) (max_for methods.Bye) ≡ true

sends_in : (s : Scene) (end : End) (y : Dialog) (d : LegDialog) → LegIn s end y → dialog_with end s ≡ Some d → SendsIn s end d
sends_in s end y d l is =
    let same : l.leg ≡ d = same_Some l.leg d (sym l.has ∙ is) in
    record { has = is; leads = subst (λ (x : LegDialog). is_some (address_of x.target) ≡ true) same l.leads; numbered = subst (λ (x : LegDialog). nat_lt (last_number x) (max_for methods.Bye) ≡ true) same l.numbered }

-- ---- the dialogs that the 2xx leaves

module _ (c : StandingCall) where
  pub put_there : (x : End) (d : LegDialog) → dialog_of x (with_dialog x d c.call) ≡ Some d
  put_there Caller d = refl
  put_there Callee d = refl

  put_beside : (x : End) (d : LegDialog) → dialog_of x (with_dialog (other x) d c.call) ≡ dialog_of x c.call
  put_beside Caller d = refl
  put_beside Callee d = refl

  across_in : (asked : Parts) (r : Response) (target : Option Uri) (d : LegDialog) → dialog_of (other (offerer_of c.call.standing)) c.call ≡ Some d
      → dialog_in (other (offerer_of c.call.standing)) (leg_by asked r target (Some c)) c.call ≡ Some (renewed target d)
  across_in asked r None d is = is
  across_in asked r (Some target) d is =
      ap (λ o. dialog_of (other (offerer_of c.call.standing)) (with_dialog (other (offerer_of c.call.standing)) (dialog_after asked r target o) c.call)) is
      ∙ put_there (other (offerer_of c.call.standing)) (renewed (Some target) d)

  own_in : (asked : Parts) (r : Response) (target : Option Uri) → dialog_in (offerer_of c.call.standing) (leg_by asked r target (Some c)) c.call ≡ dialog_of (offerer_of c.call.standing) c.call
  own_in asked r None = refl
  own_in asked r (Some target) = put_beside (offerer_of c.call.standing) (dialog_after asked r target (dialog_of (other (offerer_of c.call.standing)) c.call))

  first_in : (asked : Parts) (r : Response) (target : Uri) → c.call.callee ≡ None → offerer_of c.call.standing ≡ Caller → dialog_in Callee (leg_by asked r (Some target) (Some c)) c.call ≡ Some (callers_dialog asked r target)
  first_in asked r target none caller =
      ap (λ x. dialog_of Callee (with_dialog (other x) (dialog_after asked r target (dialog_of (other x) c.call)) c.call)) caller
      ∙ ap (λ o. Some (dialog_after asked r target o)) none

-- ---- the lines

module _ (s : Scene) (o : Asker) (asked : s.offer ≡ Some o) (x : End) (d : LegDialog) (across : SendsIn s (other x) d) where
  pub first_unfit : (rung : Bool) → Tells s (actions_in (row_in (stages.Asked rung) x signals.UnfitAnswer)) (acknowledges d ∷ bye d ∷ responds o.parts.now o.source 500 ∷ [])
  unfolding asked_row
  first_unfit rung = then_ack s (other x) d across.has across.leads (then_bye s (other x) d across.has across.leads across.numbered (then_refusal s o x 500 asked (tells_nothing s)))

  module _ (e : LegDialog) (own : SendsIn s x e) where
    pub inside_unfit : (rung : Bool) (cancelled : Cancelled)
        → Tells s (actions_in (row_in (stages.Reasked rung cancelled) x signals.UnfitAnswer)) (acknowledges d ∷ bye d ∷ responds o.parts.now o.source 500 ∷ bye e ∷ [])
    unfolding reasked_row
    inside_unfit rung cancelled =
        then_ack s (other x) d across.has across.leads (then_bye s (other x) d across.has across.leads across.numbered (then_refusal s o x 500 asked
        (then_bye s x e own.has own.leads own.numbered (tells_nothing s))))

    pub update_unfit : Tells s (actions_in (row_in stages.Updating x signals.UnfitAnswer)) (responds o.parts.now o.source 500 ∷ bye d ∷ bye e ∷ [])
    unfolding updating_row
    update_unfit =
        then_refusal s o x 500 asked (then_bye s (other x) d across.has across.leads across.numbered (then_bye s x e own.has own.leads own.numbered (tells_nothing s)))

module _ (s : Scene) (o : Asker) (asked : s.offer ≡ Some o) (given : Description) (says : option_copied s.description ≡ Some given) (x : End) where
  -- the timers say nothing
  answers_then : Tells s (PutRows ∷ Answer x ∷ Stop timers.Limit ∷ Set timers.Repeat first_interval ∷ Set timers.Wait wait_time ∷ []) (responds o.parts.now o.source 200 ∷ [])
  answers_then =
      then_silent s PutRows (puts_none s) (then_answer s o x given asked says (then_silent s (Stop timers.Limit) (λ tokens. stops_none s tokens timers.Limit)
      (then_silent s (Set timers.Repeat first_interval) (λ tokens. sets_none s tokens timers.Repeat first_interval)
      (then_silent s (Set timers.Wait wait_time) (λ tokens. sets_none s tokens timers.Wait wait_time) (tells_nothing s)))))

  pub update_fit : Tells s (actions_in (row_in stages.Updating x signals.FitAnswer)) (responds o.parts.now o.source 200 ∷ [])
  unfolding updating_row
  update_fit = then_silent s PutRows (puts_none s) (then_answer s o x given asked says (tells_nothing s))

  module _ (d : LegDialog) (across : SendsIn s (other x) d) where
    pub first_fit : (rung : Bool) → Tells s (actions_in (row_in (stages.Asked rung) x signals.FitAnswer)) (acknowledges d ∷ responds o.parts.now o.source 200 ∷ [])
    unfolding asked_row
    first_fit rung = then_ack s (other x) d across.has across.leads answers_then

    pub inside_fit : (rung : Bool) (cancelled : Cancelled) → Tells s (actions_in (row_in (stages.Reasked rung cancelled) x signals.FitAnswer)) (acknowledges d ∷ responds o.parts.now o.source 200 ∷ [])
    unfolding reasked_row
    inside_fit rung cancelled = then_ack s (other x) d across.has across.leads answers_then

-- ---- the event

module _ (reads : Reading) (laws : ReadingLaws) (describes : BodiesDescribe) (law : SentIsRead) (s : Contents) (event : Event) (t : List Datagram) (k : ℕ) (stands : AgentStands s t k) (source : Addr) (bytes : List ℕ) (r : Response) (id : ℕ) (asked : Transaction) (up : GoesUp s event source bytes r id asked) (place : ℕ) (c : StandingCall) (n : Standing) (at_place : StandsAt s place c n) (rule_is : response_rule s.calls.calls asked.parts r ≡ rule.Answer place) where
  abbrev e : Setting
  e = setting_of s event source

  abbrev input : Input
  input = inputs.Answer (described r.headers r.body)

  abbrev step : Step
  step = call_row c.call input s.calls.pool e.now

  abbrev leg : Option Put
  leg = answers_leg s.calls.calls place asked.parts r

  abbrev w : ComingValue
  w = without_offer leg None

  abbrev scene : Scene
  scene = scene_at (office s) e w c step.description

  abbrev begins : List Entry
  begins = change_of s.table (Kinds.Response r) source ∷ []

  tied : AreTied (office s) stands.0 stands.1 t stands.2.0
  tied = tied_of s stands.0 stands.1 t stands.2.0 k stands.2.1 (few_tokens s event up.comes.counts)

  knows : KnowsLegs (office s)
  knows = legs_known (office s) stands.0 stands.1 t stands.2.1.known

  pub why : Reason s.calls.calls asked.parts r (rule.Answer place)
  why = subst (Reason s.calls.calls asked.parts r) rule_is (rule_reason s.calls.calls asked.parts r)

  to : RespondsToOffer (office s) r id asked c
  to = responds_of s event source bytes r id asked up place c at_place.there why

  pub answer_can : CanCome input w
  answer_can = answer_comes describes laws.reading (office s) bytes r id place asked tied.scenes up.comes.read up.stands (answered_client r.parts asked (answered_up s.table r id asked up.up up.stands))

  module _ (signal : Signal) (line : step.actions ≡ actions_in (row_in n.stage n.offerer signal)) where
    sends : (what : List Going) (stage : Stage) → n.stage ≡ stage → Tells scene (actions_in (row_in stage n.offerer signal)) what → Sends what (row s event)
    sends what stage is tells =
        row_sends (row s event) s.acks begins (reception_of s.table (Kinds.Response r)).send (Some id) (takes_row s.calls s.table (occasion (office s) e) place input leg None) what
        (up_row s event source bytes r id asked up ∙ ap (responds_by (office s) e r begins (reception_of s.table (Kinds.Response r)).send id asked) rule_is) (success_silent s.table r why.is)
        (line_sends reads describes law (office s) tied.scenes e place c at_place.there input leg None answer_can (actions_in (row_in n.stage n.offerer signal)) line what
        (subst (λ x. Tells scene (actions_in (row_in x n.offerer signal)) what) (sym is) tells))

  unfit_line : IsUnfit c r → step.actions ≡ actions_in (row_in n.stage n.offerer signals.UnfitAnswer)
  unfolding row_of
  unfit_line unfit = (signal_row c.call n input signals.UnfitAnswer s.calls.pool e.now at_place.stands (unfit, refl)).actions

  leg_is : leg ≡ leg_by asked.parts r (reached_at (contacts_of r.headers)) (Some c)
  unfolding answers_leg
  leg_is = ap (leg_by asked.parts r (reached_at (contacts_of r.headers))) at_place.there

  module _ (waits : awaits_answer n.stage ≡ true) (answer : Description) (fit : IsFitAnswer c r answer) where
    abbrev fits : IsFitStep c.call n (described r.headers r.body) step
    fits = fit_row c.call n s.calls.pool e.now (described r.headers r.body) at_place.stands waits (ap (is_fit c.call c.call.media.offer) fit.described ∙ fit.fit)

    fit_line : step.actions ≡ actions_in (row_in n.stage n.offerer signals.FitAnswer)
    unfolding row_of
    fit_line = fits.actions

  offerer_is : offerer_of c.call.standing ≡ n.offerer
  offerer_is = ap offerer_of at_place.stands

  -- ---- its legs

  module _ (waits : awaits_answer n.stage ≡ true) where
    spot : HasSpot s.table.slots stands.0 t s.calls.calls stands.2.0 place c
    spot =
        has_spot s.table.slots stands.0 t s.calls.calls stands.2.0 place c tied.listed (all_asked s stands.0 stands.2.1.known.callees stands.2.1.known.requests) at_place.there
        (ap (holds_in is_listed_stage) at_place.stands ∙ awaiting_listed n.stage waits)

    abbrev taken : Option Message
    taken = Some (trace_message bytes (Kinds.Response r))

    took : IsTakenOf bytes taken
    took = record { message = Kinds.Response r; reads = laws.reading.message bytes (Kinds.Response r) up.comes.read; seen = refl }

    shown : IsShownAt (office s) stands.0 t place c n spot.call
    shown = record { there = at_place.there; stands = at_place.stands; shows = spot.shows }

    signal : TakesSignal n scene spot.call taken signals.UnfitAnswer
    signal =
        success_signals laws (office s) e place c step.description stands.0 stands.1 t n spot.call r id asked bytes taken knows tied.tokens tied.waiting tied.trace shown
        (all_at (CallStands offering t) stands.2.0 spot.place_there spot.call stands.2.1.stands.sessions.stand spot.there) to up.comes.read up.reached took why.is

    legs_by : (stage : Stage) → n.stage ≡ stage → HasLegs stage scene spot.call signals.UnfitAnswer
    legs_by stage is = subst (λ x. HasLegs x scene spot.call signals.UnfitAnswer) is signal.legs

    -- with the end across, and with the offerer
    across_there : (d : LegDialog) → dialog_of (other n.offerer) c.call ≡ Some d → dialog_with (other n.offerer) scene ≡ Some (renewed (reached_at (contacts_of r.headers)) d)
    across_there d is =
        scene_dialog s.table (occasion (office s) e) w c step.description (other n.offerer)
        ∙ (ap (λ l. dialog_in (other n.offerer) l c.call) leg_is
        ∙ subst (λ x. dialog_in (other x) (leg_by asked.parts r (reached_at (contacts_of r.headers)) (Some c)) c.call ≡ Some (renewed (reached_at (contacts_of r.headers)) d)) offerer_is
        (across_in c asked.parts r (reached_at (contacts_of r.headers)) d (ap (λ x. dialog_of (other x) c.call) offerer_is ∙ is)))

    own_there : (d : LegDialog) → dialog_of n.offerer c.call ≡ Some d → dialog_with n.offerer scene ≡ Some d
    own_there d is =
        scene_dialog s.table (occasion (office s) e) w c step.description n.offerer
        ∙ (ap (λ l. dialog_in n.offerer l c.call) leg_is
        ∙ (subst (λ x. dialog_in x (leg_by asked.parts r (reached_at (contacts_of r.headers)) (Some c)) c.call ≡ dialog_of x c.call) offerer_is (own_in c asked.parts r (reached_at (contacts_of r.headers))) ∙ is))

  -- ---- a first INVITE

  module _ (rung : Bool) (is : n.stage ≡ stages.Asked rung) (target : Uri) (reached : reached_at (contacts_of r.headers) ≡ Some target) where
    abbrev made : LegDialog
    made = callers_dialog asked.parts r target

    first_shown : ShowsStage s.table.slots stands.0 t c n (stages.Asked rung) (spot (ap awaits_answer is)).call
    first_shown =
        subst (λ x. ShowsStage s.table.slots stands.0 t c n x (spot (ap awaits_answer is)).call) is
        (stage_shown s.table.slots stands.0 t c n (spot (ap awaits_answer is)).call at_place.stands (spot (ap awaits_answer is)).shows)

    made_there : dialog_with Callee scene ≡ Some made
    made_there =
        scene_dialog s.table (occasion (office s) e) w c step.description Callee
        ∙ (ap (λ l. dialog_in Callee l c.call) (leg_is ∙ ap (λ o. leg_by asked.parts r o (Some c)) reached) ∙ first_in c asked.parts r target first_shown.1 (offerer_is ∙ first_shown.2))

    first_across : SendsIn scene (other n.offerer) made
    first_across =
        let legs = legs_by (ap awaits_answer is) (stages.Asked rung) is in
        subst (λ x. SendsIn scene (other x) made) (sym first_shown.2) (sends_in scene Callee legs.callee made legs.leg made_there)

    pub first_ends : IsUnfit c r → WithOffer s c (λ offered. Sends (acknowledges made ∷ bye made ∷ to_offerer c offered 500 ∷ []) (row s event))
    first_ends unfit =
        let o = offer_came (office s) tied.scenes place c n at_place.there at_place.stands (ap awaits_answer is) in (
          o.0,
          o.1,
          sends signals.UnfitAnswer (unfit_line unfit) _ (stages.Asked rung) is
              (first_unfit scene (asker_for c o.0) (asker_there (office s) e w c step.description o.0 refl o.1) n.offerer made first_across rung),
        )

    pub first_answers : (answer : Description) → IsFitAnswer c r answer → WithOffer s c (λ offered. Sends (acknowledges made ∷ to_offerer c offered 200 ∷ []) (row s event))
    first_answers answer fit =
        let o = offer_came (office s) tied.scenes place c n at_place.there at_place.stands (ap awaits_answer is) in
        let f = fits (ap awaits_answer is) answer fit in (
          o.0,
          o.1,
          sends signals.FitAnswer (fit_line (ap awaits_answer is) answer fit) _ (stages.Asked rung) is
              (first_fit scene (asker_for c o.0) (asker_there (office s) e w c step.description o.0 refl o.1) _ (ap (λ (d : Option Description). option_copied (option_map lent d)) f.description) n.offerer made first_across rung),
        )

  -- ---- inside a call

  module _ (waits : awaits_answer n.stage ≡ true) (answered : is_unanswered n.stage ≡ false) (legs : Legs scene (spot waits).call) where
    callee : HasCallee c
    callee = call_at HasCallee s.calls.calls place c knows.callees.calls at_place.there

    with_end : (end : End) → (d : LegDialog) × (dialog_of end c.call ≡ Some d)
    with_end end = dialog_there c n end callee at_place.stands answered

    ends : (signal : Signal) → step.actions ≡ actions_in (row_in n.stage n.offerer signal) → (goings : LegDialog → LegDialog → List Going)
        → ((d own : LegDialog) → SendsIn scene (other n.offerer) d → SendsIn scene n.offerer own → Tells scene (actions_in (row_in n.stage n.offerer signal)) (goings d own))
        → SendsInside goings c r n.offerer (row s event)
    ends signal line goings tells =
        let across = with_end (other n.offerer) in
        let own = with_end n.offerer in
        record {
          across = across.0;
          own = own.0;
          with_other = across.1;
          with_own = own.1;
          sends = sends signal line _ n.stage refl (tells (renewed (reached_at (contacts_of r.headers)) across.0) own.0
              (sends_in scene (other n.offerer) _ _ (legs (other n.offerer)) (across_there waits across.0 across.1)) (sends_in scene n.offerer _ _ (legs n.offerer) (own_there waits own.0 own.1)));
        }

  pub inside_ends : (rung : Bool) (cancelled : Cancelled) → n.stage ≡ stages.Reasked rung cancelled → IsUnfit c r
      → WithOffer s c (λ offered. SendsInside (λ d own. acknowledges d ∷ bye d ∷ to_offerer c offered 500 ∷ bye own ∷ []) c r n.offerer (row s event))
  inside_ends rung cancelled is unfit =
      let waits = ap awaits_answer is in
      let o = offer_came (office s) tied.scenes place c n at_place.there at_place.stands waits in (
        o.0,
        o.1,
        ends waits (ap is_unanswered is) (legs_by waits (stages.Reasked rung cancelled) is) signals.UnfitAnswer (unfit_line unfit) _
            (λ d own across there. subst (λ x. Tells scene (actions_in (row_in x n.offerer signals.UnfitAnswer)) (acknowledges d ∷ bye d ∷ to_offerer c o.0 500 ∷ bye own ∷ [])) (sym is)
            (inside_unfit scene (asker_for c o.0) (asker_there (office s) e w c step.description o.0 refl o.1) n.offerer d across own there rung cancelled)),
      )

  pub update_ends : n.stage ≡ stages.Updating → IsUnfit c r → WithOffer s c (λ offered. SendsInside (λ d own. to_offerer c offered 500 ∷ bye d ∷ bye own ∷ []) c r n.offerer (row s event))
  update_ends is unfit =
      let waits = ap awaits_answer is in
      let o = offer_came (office s) tied.scenes place c n at_place.there at_place.stands waits in (
        o.0,
        o.1,
        ends waits (ap is_unanswered is) (legs_by waits stages.Updating is) signals.UnfitAnswer (unfit_line unfit) _
            (λ d own across there. subst (λ x. Tells scene (actions_in (row_in x n.offerer signals.UnfitAnswer)) (to_offerer c o.0 500 ∷ bye d ∷ bye own ∷ [])) (sym is)
            (update_unfit scene (asker_for c o.0) (asker_there (office s) e w c step.description o.0 refl o.1) n.offerer d across own there)),
      )

  pub inside_answers : (rung : Bool) (cancelled : Cancelled) → n.stage ≡ stages.Reasked rung cancelled → (answer : Description) → IsFitAnswer c r answer
      → WithOffer s c (λ offered. SendsInside (λ d own. acknowledges d ∷ to_offerer c offered 200 ∷ []) c r n.offerer (row s event))
  inside_answers rung cancelled is answer fit =
      let waits = ap awaits_answer is in
      let o = offer_came (office s) tied.scenes place c n at_place.there at_place.stands waits in
      let says = ap (λ (d : Option Description). option_copied (option_map lent d)) (fits waits answer fit).description in (
        o.0,
        o.1,
        ends waits (ap is_unanswered is) (legs_by waits (stages.Reasked rung cancelled) is) signals.FitAnswer (fit_line waits answer fit) _
            (λ d own across there. subst (λ x. Tells scene (actions_in (row_in x n.offerer signals.FitAnswer)) (acknowledges d ∷ to_offerer c o.0 200 ∷ [])) (sym is)
            (inside_fit scene (asker_for c o.0) (asker_there (office s) e w c step.description o.0 refl o.1) _ says n.offerer d across rung cancelled)),
      )

  pub update_answers : n.stage ≡ stages.Updating → (answer : Description) → IsFitAnswer c r answer → WithOffer s c (λ offered. Sends (to_offerer c offered 200 ∷ []) (row s event))
  update_answers is answer fit =
      let waits = ap awaits_answer is in
      let o = offer_came (office s) tied.scenes place c n at_place.there at_place.stands waits in
      let says = ap (λ (d : Option Description). option_copied (option_map lent d)) (fits waits answer fit).description in (
        o.0,
        o.1,
        sends signals.FitAnswer (fit_line waits answer fit) _ stages.Updating is
            (update_fit scene (asker_for c o.0) (asker_there (office s) e w c step.description o.0 refl o.1) _ says n.offerer),
      )
