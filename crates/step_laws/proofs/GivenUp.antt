-- A 2xx to a first INVITE that was given up: what the step sends.
use Rattle.std.proofs.Common.{◌≡◌, ◌∙◌, ℕ, Bool, true, false, nat_lt, is_some, List, [], ◌∷◌, Option, Some, None, refl, ap, sym, subst}
use Rattle.std.proofs.lemmas.Option.{same_Some}
use Rattle.sip_uri.specs.Address.{address_of}
use Rattle.sip_uri.specs.declared.uri.Addr.{Addr}
use Rattle.sip_uri.specs.declared.uri.Uri.{Uri}
use Rattle.sip_message.specs.Contact.{contacts_of}
use Rattle.sip_message.specs.declared.message.Message.TheVariants as Kinds
use Rattle.sip_message.specs.declared.message.Parts.{Parts}
use Rattle.sip_message.specs.declared.message.Response.{Response}
use Rattle.dialogs.specs.Counting.{max_for, last_number}
use Rattle.dialogs.specs.Making.{reached_at}
use Rattle.dialogs.specs.declared.method.Method.TheVariants as methods
use Rattle.dialogs.specs.declared.state.Dialog.{Dialog as LegDialog}
use Rattle.transactions.specs.Changes.{change_of}
use Rattle.transactions.specs.Contents.{reception_of}
use Rattle.transactions.specs.declared.change.Entry.{Entry}
use Rattle.transactions.specs.declared.transaction.Transaction.{Transaction}
use Rattle.events.specs.declared.event.Event.{Event}
use Rattle.sdp.specs.declared.description.Description.{Description}
use Rattle.call_media.specs.Ends.{is_same, other}
use Rattle.call_media.specs.declared.end.End.{End}
use Rattle.call_media.specs.declared.end.End.TheVariants.{Caller, Callee}
use Rattle.call_core.specs.CallRows.{call_row, is_fit}
use Rattle.call_core.specs.Calls.{awaits_answer, dialog_of, holds_in}
use Rattle.call_core.specs.Plans.{Step}
use Rattle.call_core.specs.Table.{row_in, row_of}
use Rattle.call_core.specs.declared.input.Input.{Input}
use Rattle.call_core.specs.declared.input.Input.TheVariants as inputs
use Rattle.call_core.specs.declared.signal.Signal.{Signal}
use Rattle.call_core.specs.declared.signal.Signal.TheVariants as signals
use Rattle.call_core.specs.declared.stage.Stage.{Stage}
use Rattle.call_core.specs.declared.stage.Stage.TheVariants as stages
use Rattle.call_core.specs.declared.stage.Standing.{Standing}
use Rattle.call_rules.specs.Content.{described}
use Rattle.call_rules.specs.Responses.{response_rule}
use Rattle.call_rules.specs.declared.responses.ResponseRule.TheVariants as rule
use Rattle.call_messages.specs.Dressing.{dialog_with}
use Rattle.call_messages.specs.declared.scene.Scene.{Scene}
use Rattle.call_steps.specs.Rows.{answers_leg, dialog_after, leg_by, takes_row}
use Rattle.call_steps.specs.Scenes.{dialog_in}
use Rattle.call_steps.specs.Values.{ComingValue, without_offer}
use Rattle.calls.specs.Carrying.{offerer_of}
use Rattle.calls.specs.declared.change.LegDialog.{LegDialog as Put}
use Rattle.calls.specs.declared.standing_call.StandingCall.{StandingCall}
use Rattle.plans.specs.CallRows.{occasion, responds_by}
use Rattle.plans.specs.declared.setting.Setting.{Setting}
use Rattle.event_rows.specs.Rows.{row}
use Rattle.event_rows.specs.State.{Contents, office}
use Rattle.call_trace.specs.declared.datagram.Datagram.{Datagram}
use Rattle.message_laws.specs.Comings.{CanCome}
use Rattle.message_laws.proofs.AwaitedOffers.Awaiting.{all_at as call_at}
use Rattle.message_laws.proofs.Traces.Comings.{answer_comes}
use Rattle.message_laws.proofs.QuietEvents.Describing.{BodiesDescribe}
use Rattle.message_laws.proofs.TokenUse.Events.{few_tokens}
use Rattle.message_laws.proofs.Messages.ReadBack.{SentIsRead}
use Rattle.message_laws.proofs.TokenUse.Rows.{answered_client}
use Rattle.message_laws.proofs.AwaitedOffers.Tagged.{scene_dialog}
use Rattle.media_laws.specs.Coming.{HasNumbersLeft, scene_at}
use Rattle.media_laws.proofs.Scenes.Legs.{number_left}
use Rattle.media_laws.proofs.CallLines.SignalSteps.{signal_row}
use Rattle.media_laws.specs.Lines.{actions_in}
use Rattle.media_laws.specs.Responding.{RespondsToOffer}
use Rattle.media_laws.specs.Standing.{AgentStands}
use Rattle.media_laws.specs.Taking.{KnowsLegs}
use Rattle.media_laws.specs.Ties.{AreTied}
use Rattle.media_laws.proofs.OfferPairs.FirstAnswers.{ReadingLaws}
use Rattle.media_laws.proofs.Scenes.Reading.{Reading}
use Rattle.media_laws.proofs.LateResponses.RuleReasons.{Reason, rule_reason}
use Rattle.media_laws.proofs.Scenes.Silence.{success_silent}
use Rattle.step_laws.specs.Answers.{IsUnfit, acknowledges}
use Rattle.step_laws.specs.Coming.{GoesUp}
use Rattle.step_laws.specs.Leaving.{StandsAt, bye}
use Rattle.step_laws.specs.Sending.{Going, Sends}
use Rattle.step_laws.proofs.ComingRows.{setting_of, up_row}
use Rattle.step_laws.proofs.FitAnswerEvents.{responds_of}
use Rattle.step_laws.proofs.GoingUp.{answered_up}
use Rattle.step_laws.proofs.Known.{legs_known, tied_of}
use Rattle.step_laws.proofs.StepSends.{line_sends, row_sends}
use Rattle.step_laws.proofs.Telling.{Tells, tells_nothing, then_ack, then_bye}
use Rattle.std.proofs.lemmas.Bool.{false≢true}
use Rattle.call_core.specs.Cancelling.{cancelling_row}
use Rattle.call_core.specs.Table.{row_of}
use Rattle.call_media.specs.declared.session.OpenOffer.{OpenOffer}
use Rattle.call_rules.specs.Responses.{asked_end}
use Rattle.message_laws.specs.Sound.{IsTargetIf}
use Rattle.message_laws.specs.Waiting.{FitsCall, IsAwaited, IsCounted}
use Rattle.message_laws.proofs.AwaitedOffers.Awaiting.{opened}
use Rattle.message_laws.proofs.StandingCalls.Reaching.{response_may_offer, response_reached}
use Rattle.message_laws.proofs.StandingCalls.Reading.{reached_target}
use Rattle.step_laws.proofs.AlikeOffers.{served}
use Rattle.step_laws.proofs.AnswerSends.{put_there}

-- ---- no offer is open

none_fit : (c : StandingCall) (o : Option OpenOffer) (answer : Option Description) → is_some o ≡ false → is_fit c.call o answer ≡ false
none_fit c None answer none = refl
none_fit c (Some o) answer none = absurd (false≢true (sym none))

-- ---- the dialog

module _ (asked : Parts) (r : Response) (target : Uri) where
  target_is : (o : Option LegDialog) → (dialog_after asked r target o).target ≡ target
  target_is None = refl
  target_is (Some d) = refl

  numbered_by : (o : Option LegDialog) → IsCounted asked.cseq.number o → ((d : LegDialog) → o ≡ Some d → nat_lt (last_number d) (max_for methods.Bye) ≡ true)
      → nat_lt (last_number (dialog_after asked r target o)) (max_for methods.Bye) ≡ true
  numbered_by None counted each = ap (λ n. nat_lt n (max_for methods.Bye)) counted
  numbered_by (Some d) counted each = each d refl

same_end : (a b : End) → is_same a b ≡ true → a ≡ b
same_end Caller Caller is = refl
same_end Caller Callee is = absurd (false≢true is)
same_end Callee Caller is = absurd (false≢true is)
same_end Callee Callee is = refl

-- ---- the line

pub given_up_ends : (s : Scene) (x : End) (d : LegDialog) → dialog_with (other x) s ≡ Some d → is_some (address_of d.target) ≡ true → nat_lt (last_number d) (max_for methods.Bye) ≡ true → (waits : Bool)
    → Tells s (actions_in (row_in (stages.Cancelling waits) x signals.UnfitAnswer)) (acknowledges d ∷ bye d ∷ [])
unfolding cancelling_row
given_up_ends s x d has leads numbered true = then_ack s (other x) d has leads (then_bye s (other x) d has leads numbered (tells_nothing s))
given_up_ends s x d has leads numbered false = then_ack s (other x) d has leads (then_bye s (other x) d has leads numbered (tells_nothing s))

-- ---- the event

module _ (reads : Reading) (laws : ReadingLaws) (describes : BodiesDescribe) (law : SentIsRead) (s : Contents) (event : Event) (t : List Datagram) (k : ℕ) (stands : AgentStands s t k) (source : Addr) (bytes : List ℕ) (r : Response) (id : ℕ) (asked : Transaction) (up : GoesUp s event source bytes r id asked) (place : ℕ) (c : StandingCall) (n : Standing) (at_place : StandsAt s place c n) (rule_is : response_rule s.calls.calls asked.parts r ≡ rule.Answer place) where
  abbrev e : Setting
  e = setting_of s event source

  abbrev input : Input
  input = inputs.Answer (described r.headers r.body)

  abbrev step : Step
  step = call_row c.call input s.calls.pool e.now

  abbrev leg : Option Put
  leg = answers_leg s.calls.calls place asked.parts r

  abbrev w : ComingValue
  w = without_offer leg None

  abbrev scene : Scene
  scene = scene_at (office s) e w c step.description

  abbrev begins : List Entry
  begins = change_of s.table (Kinds.Response r) source ∷ []

  tied : AreTied (office s) stands.0 stands.1 t stands.2.0
  tied = tied_of s stands.0 stands.1 t stands.2.0 k stands.2.1 (few_tokens s event up.comes.counts)

  knows : KnowsLegs (office s)
  knows = legs_known (office s) stands.0 stands.1 t stands.2.1.known

  why : Reason s.calls.calls asked.parts r (rule.Answer place)
  why = subst (Reason s.calls.calls asked.parts r) rule_is (rule_reason s.calls.calls asked.parts r)

  to : RespondsToOffer (office s) r id asked c
  to = responds_of s event source bytes r id asked up place c at_place.there why

  can : CanCome input w
  can = answer_comes describes laws.reading (office s) bytes r id place asked tied.scenes up.comes.read up.stands (answered_client r.parts asked (answered_up s.table r id asked up.up up.stands))

  module _ (signal : Signal) (line : step.actions ≡ actions_in (row_in n.stage n.offerer signal)) where
    sends : (what : List Going) (stage : Stage) → n.stage ≡ stage → Tells scene (actions_in (row_in stage n.offerer signal)) what → Sends what (row s event)
    sends what stage is tells =
        row_sends (row s event) s.acks begins (reception_of s.table (Kinds.Response r)).send (Some id) (takes_row s.calls s.table (occasion (office s) e) place input leg None) what
        (up_row s event source bytes r id asked up ∙ ap (responds_by (office s) e r begins (reception_of s.table (Kinds.Response r)).send id asked) rule_is) (success_silent s.table r why.is)
        (line_sends reads describes law (office s) tied.scenes e place c at_place.there input leg None can (actions_in (row_in n.stage n.offerer signal)) line what
        (subst (λ x. Tells scene (actions_in (row_in x n.offerer signal)) what) (sym is) tells))

  unfit_line : IsUnfit c r → step.actions ≡ actions_in (row_in n.stage n.offerer signals.UnfitAnswer)
  unfolding row_of
  unfit_line unfit = (signal_row c.call n input signals.UnfitAnswer s.calls.pool e.now at_place.stands (unfit, refl)).actions

  leg_is : leg ≡ leg_by asked.parts r (reached_at (contacts_of r.headers)) (Some c)
  unfolding answers_leg
  leg_is = ap (leg_by asked.parts r (reached_at (contacts_of r.headers))) at_place.there

  offerer_is : offerer_of c.call.standing ≡ n.offerer
  offerer_is = ap offerer_of at_place.stands

  module _ (waits : Bool) (is : n.stage ≡ stages.Cancelling waits) (target : Uri) (reached : reached_at (contacts_of r.headers) ≡ Some target) where
    abbrev made : LegDialog
    made = dialog_after asked.parts r target (dialog_of (other n.offerer) c.call)

    unfit : IsUnfit c r
    unfit =
        none_fit c c.call.media.offer (described r.headers r.body)
        ((served (office s) stands.2.1.known.serving place c at_place.there).offer ∙ (ap (holds_in awaits_answer) at_place.stands ∙ ap awaits_answer is))

    made_there : dialog_with (other n.offerer) scene ≡ Some made
    made_there =
        scene_dialog s.table (occasion (office s) e) w c step.description (other n.offerer)
        ∙ (ap (λ l. dialog_in (other n.offerer) l c.call) (leg_is ∙ ap (λ o. leg_by asked.parts r o (Some c)) reached)
        ∙ subst (λ x. dialog_in (other x) (leg_by asked.parts r (Some target) (Some c)) c.call ≡ Some (dialog_after asked.parts r target (dialog_of (other x) c.call))) offerer_is
        (put_there c (other (offerer_of c.call.standing)) (dialog_after asked.parts r target (dialog_of (other (offerer_of c.call.standing)) c.call))))

    leads : is_some (address_of made.target) ≡ true
    leads =
        ap (λ u. is_some (address_of u)) (target_is asked.parts r target (dialog_of (other n.offerer) c.call))
        ∙ (subst IsTargetIf reached (reached_target laws.reading r.parts r.headers (response_may_offer r.parts asked to.answers to.offers) (response_reached r up.reached why.is))).leads

    awaited : IsAwaited asked c
    awaited =
        call_at (FitsCall asked) s.calls.calls place c
        (tied.waiting.awaited id asked up.stands (record { client = answered_client r.parts asked to.answers; offers = to.offers })) at_place.there to.tag

    counted : IsCounted asked.parts.cseq.number (dialog_of (other n.offerer) c.call)
    counted =
        let o = opened asked.parts c to.opens in
        let same : o.0 ≡ n = same_Some o.0 n (sym o.1.stands ∙ at_place.stands) in
        let end : asked_end asked.parts c ≡ other n.offerer = same_end (asked_end asked.parts c) (other n.offerer) (subst (λ (m : Standing). is_same (asked_end asked.parts c) (other m.offerer) ≡ true) same o.1.end) in
        subst (λ x. IsCounted asked.parts.cseq.number (dialog_of x c.call)) end awaited.counted

    numbered : nat_lt (last_number made) (max_for methods.Bye) ≡ true
    numbered =
        numbered_by asked.parts r target (dialog_of (other n.offerer) c.call) counted
        (λ d has. number_left c (other n.offerer) d (call_at HasNumbersLeft s.calls.calls place c knows.left at_place.there) has)

    pub given_up : Sends (acknowledges made ∷ bye made ∷ []) (row s event)
    given_up = sends signals.UnfitAnswer (unfit_line unfit) _ (stages.Cancelling waits) is (given_up_ends scene n.offerer made made_there leads numbered waits)
