-- The event of a refusal: all that goes, and to whom.
use Rattle.std.proofs.Common.{◌≡◌, ◌∙◌, ℕ, Bool, true, false, cond, nat_lt, List, [], ◌∷◌, ◌++◌, Option, Some, None, refl, ap, sym, subst}
use Rattle.std.proofs.lemmas.Bool.{false≢true, ltb-false}
use Rattle.std.proofs.lemmas.List.{append-nil, append_assoc}
use Rattle.sip_uri.specs.declared.uri.Addr.{Addr}
use Rattle.sip_message.specs.Words.{class_of}
use Rattle.sip_message.specs.declared.message.Message.TheVariants as Kinds
use Rattle.sip_message.specs.declared.message.Response.{Response}
use Rattle.sip_message.specs.declared.words.Class.TheVariants.{Failure}
use Rattle.sdp.specs.declared.description.Description.{Description}
use Rattle.transactions.specs.Changes.{change_of}
use Rattle.transactions.specs.Contents.{reception_of}
use Rattle.transactions.specs.declared.change.Entry.{Entry}
use Rattle.transactions.specs.declared.transaction.Transaction.{Transaction}
use Rattle.events.specs.declared.event.Event.{Event}
use Rattle.call_media.specs.Ends.{other}
use Rattle.call_media.specs.declared.end.End.{End}
use Rattle.call_core.specs.Asked.{asked_row}
use Rattle.call_core.specs.CallRows.{call_row}
use Rattle.call_core.specs.Calls.{awaits_answer, has_session}
use Rattle.call_core.specs.Cancelling.{cancelling_row}
use Rattle.call_core.specs.Passing.{status_passed_on}
use Rattle.call_core.specs.Reasked.{has_lost_the_call, reasked_row}
use Rattle.call_core.specs.Rows.{gone, row as line}
use Rattle.call_core.specs.Table.{row_in}
use Rattle.call_core.specs.declared.row.Row.{Row}
use Rattle.call_core.specs.Updating.{fails, updating_row}
use Rattle.call_core.specs.declared.action.Action.TheVariants.{Bye, Refusal, Release, Stop}
use Rattle.call_core.specs.declared.action.CallTimer.TheVariants as timers
use Rattle.call_core.specs.declared.input.Input.TheVariants as inputs
use Rattle.call_core.specs.declared.signal.Signal.TheVariants as signals
use Rattle.call_core.specs.declared.stage.Stage.{Stage}
use Rattle.call_core.specs.declared.stage.Stage.TheVariants as stages
use Rattle.call_core.specs.declared.stage.Standing.{Standing}
use Rattle.call_messages.specs.declared.scene.Asker.{Asker}
use Rattle.call_messages.specs.declared.scene.Scene.{Scene}
use Rattle.call_steps.specs.Rows.{takes_row}
use Rattle.call_steps.specs.Values.{ComingValue, without_offer}
use Rattle.calls.specs.declared.standing_call.StandingCall.{StandingCall}
use Rattle.call_trace.specs.declared.datagram.Datagram.{Datagram}
use Rattle.plans.specs.CallRows.{occasion, responds_by}
use Rattle.plans.specs.declared.setting.Setting.{Setting}
use Rattle.event_rows.specs.Rows.{row}
use Rattle.event_rows.specs.State.{Contents, office}
use Rattle.message_laws.specs.CalleeDialogs.{HasCallee}
use Rattle.message_laws.specs.Comings.{CanCome, KnowsScenes}
use Rattle.message_laws.specs.Sound.{HasSoundLegs}
use Rattle.message_laws.proofs.Askers.AskerRows.{failure_by}
use Rattle.message_laws.proofs.AwaitedOffers.Awaiting.{all_at}
use Rattle.message_laws.proofs.Messages.ReadBack.{SentIsRead}
use Rattle.message_laws.proofs.Messages.ReadParts.{response_status}
use Rattle.message_laws.proofs.QuietEvents.Describing.{BodiesDescribe}
use Rattle.message_laws.proofs.StandingCalls.Reading.{Reading as ReadsNames}
use Rattle.message_laws.proofs.TokenUse.Events.{few_tokens}
use Rattle.message_laws.proofs.Traces.Comings.{alone_comes}
use Rattle.media_laws.specs.Coming.{HasNumbersLeft, scene_at}
use Rattle.media_laws.specs.Lines.{actions_in}
use Rattle.media_laws.specs.Standing.{AgentStands}
use Rattle.media_laws.specs.Taking.{KnowsLegs}
use Rattle.media_laws.proofs.LateResponses.RuleReasons.{Reason, rule_reason}
use Rattle.media_laws.proofs.OfferPairs.Taking.{releases_none, stops_none}
use Rattle.media_laws.proofs.Scenes.Reading.{Reading}
use Rattle.step_laws.specs.Coming.{GoesUp}
use Rattle.step_laws.specs.Expiring.{LeavesBoth}
use Rattle.step_laws.specs.Leaving.{StandsAt, WithOffer, bye, to_offerer}
use Rattle.step_laws.specs.Refusals.{IsRefusal, own_acks}
use Rattle.step_laws.specs.Sending.{Going, Sends, responds}
use Rattle.step_laws.proofs.ByeEvents.{talks_answered}
use Rattle.step_laws.proofs.ComingRows.{setting_of, up_row}
use Rattle.step_laws.proofs.FitAnswers.{asker_for, asker_there}
use Rattle.step_laws.proofs.Known.{legs_known, scenes_known}
use Rattle.step_laws.proofs.OwnAcks.{own_acks_go}
use Rattle.step_laws.proofs.StepSends.{Reaches, offer_came, reaches, sends_behind, takes_sends}
use Rattle.step_laws.proofs.Telling.{Tells, tells_nothing, then_bye, then_refusal, then_silent}

-- ---- the lines

lost_row : {what : List Going} (s : Scene) (b : Bool) (one next : Row) → b ≡ true → Tells s one.actions what → Tells s (actions_in (Some (cond b one next))) what
lost_row s true one next is h = h
lost_row s false one next is h = absurd (false≢true is)

kept_row : {what : List Going} (s : Scene) (b : Bool) (one next : Row) → b ≡ false → Tells s next.actions what → Tells s (actions_in (Some (cond b one next))) what
kept_row s false one next is h = h
kept_row s true one next is h = absurd (false≢true (sym is))

module _ (s : Scene) (o : Asker) (asked : s.offer ≡ Some o) (status : ℕ) where
  pub first_refused : (rung : Bool) (x : End) → Tells s (actions_in (row_in (stages.Asked rung) x (signals.Refusal status))) (responds o.parts.now o.source (status_passed_on status) ∷ [])
  unfolding asked_row
  first_refused rung x = then_refusal s o x (status_passed_on status) asked (tells_nothing s)

  pub inside_refused : (stage : Stage) (x : End) → has_session stage ≡ true → awaits_answer stage ≡ true → has_lost_the_call status ≡ false
      → Tells s (actions_in (row_in stage x (signals.Refusal status))) (responds o.parts.now o.source (status_passed_on status) ∷ [])
  unfolding reasked_row updating_row
  inside_refused (stages.Asked rung) x talks waits kept = absurd (false≢true talks)
  inside_refused (stages.Cancelling sent) x talks waits kept = absurd (false≢true talks)
  inside_refused (stages.Answered interval) x talks waits kept = absurd (false≢true waits)
  inside_refused stages.Settled x talks waits kept = absurd (false≢true waits)
  inside_refused (stages.Reasked rung cancelled) x talks waits kept =
      kept_row s (has_lost_the_call status) (gone (Refusal x status ∷ Bye (other x) ∷ Bye x ∷ [])) (line (Refusal x (status_passed_on status) ∷ Release ∷ Stop timers.Limit ∷ []) x stages.Settled) kept
      (then_refusal s o x (status_passed_on status) asked (then_silent s Release (releases_none s) (then_silent s (Stop timers.Limit) (λ tokens. stops_none s tokens timers.Limit) (tells_nothing s))))
  inside_refused (stages.Reanswered interval) x talks waits kept = absurd (false≢true waits)
  inside_refused stages.Updating x talks waits kept =
      kept_row s (has_lost_the_call status) (fails x status) (line (Refusal x (status_passed_on status) ∷ Release ∷ []) x stages.Settled) kept
      (then_refusal s o x (status_passed_on status) asked (then_silent s Release (releases_none s) (tells_nothing s)))
  inside_refused (stages.Ending interval) x talks waits kept = absurd (false≢true talks)

  module _ (c : StandingCall) (x : End) (across : Reaches c s (other x)) (own : Reaches c s x) where
    abbrev three : List Going
    three = responds o.parts.now o.source status ∷ bye across.dialog ∷ bye own.dialog ∷ []

    pub inside_lost : (stage : Stage) → has_session stage ≡ true → awaits_answer stage ≡ true → has_lost_the_call status ≡ true → Tells s (actions_in (row_in stage x (signals.Refusal status))) three
    unfolding reasked_row updating_row
    inside_lost (stages.Asked rung) talks waits lost = absurd (false≢true talks)
    inside_lost (stages.Cancelling sent) talks waits lost = absurd (false≢true talks)
    inside_lost (stages.Answered interval) talks waits lost = absurd (false≢true waits)
    inside_lost stages.Settled talks waits lost = absurd (false≢true waits)
    inside_lost (stages.Reasked rung cancelled) talks waits lost =
        lost_row s (has_lost_the_call status) (gone (Refusal x status ∷ Bye (other x) ∷ Bye x ∷ [])) (line (Refusal x (status_passed_on status) ∷ Release ∷ Stop timers.Limit ∷ []) x stages.Settled) lost
        (then_refusal s o x status asked (then_bye s (other x) across.dialog across.has across.leads across.numbered (then_bye s x own.dialog own.has own.leads own.numbered (tells_nothing s))))
    inside_lost (stages.Reanswered interval) talks waits lost = absurd (false≢true waits)
    inside_lost stages.Updating talks waits lost =
        lost_row s (has_lost_the_call status) (fails x status) (line (Refusal x (status_passed_on status) ∷ Release ∷ []) x stages.Settled) lost
        (then_refusal s o x status asked (then_bye s (other x) across.dialog across.has across.leads across.numbered (then_bye s x own.dialog own.has own.leads own.numbered (tells_nothing s))))
    inside_lost (stages.Ending interval) talks waits lost = absurd (false≢true talks)

-- of an INVITE that was given up
pub given_up_refused : (s : Scene) (status : ℕ) (waits : Bool) (x : End) → Tells s (actions_in (row_in (stages.Cancelling waits) x (signals.Refusal status))) []
unfolding cancelling_row
given_up_refused s status true x = tells_nothing s
given_up_refused s status false x = tells_nothing s

-- ---- the event

module _ (reads : Reading) (names : ReadsNames) (describes : BodiesDescribe) (law : SentIsRead) (s : Contents) (event : Event) (t : List Datagram) (k : ℕ) (stands : AgentStands s t k) (source : Addr) (bytes : List ℕ) (r : Response) (id : ℕ) (asked : Transaction) (up : GoesUp s event source bytes r id asked) (place : ℕ) (c : StandingCall) (n : Standing) (at_place : StandsAt s place c n) (rule_is : IsRefusal s asked r place) where
  abbrev e : Setting
  e = setting_of s event source

  abbrev begins : List Entry
  begins = change_of s.table (Kinds.Response r) source ∷ []

  abbrev w : ComingValue
  w = without_offer None None

  abbrev description : Option Description
  description = (call_row c.call (inputs.Refusal r.status) s.calls.pool e.now).description

  abbrev scene : Scene
  scene = scene_at (office s) e w c description

  pub refusal_scenes : KnowsScenes (office s)
  refusal_scenes = scenes_known (office s) stands.0 stands.1 t stands.2.1.known (few_tokens s event up.comes.counts)

  knows : KnowsLegs (office s)
  knows = legs_known (office s) stands.0 stands.1 t stands.2.1.known

  pub refusal_class : class_of r.status ≡ Failure
  refusal_class = let why = subst (Reason s.calls.calls asked.parts r) rule_is (rule_reason s.calls.calls asked.parts r) in why.0.is

  pub refusal_can : CanCome (inputs.Refusal r.status) w
  refusal_can = alone_comes (inputs.Refusal r.status) (ltb-false r.status 300 (failure_by (nat_lt r.status 200) (nat_lt r.status 300) refusal_class), (response_status bytes r up.comes.read).high) refl tt

  sends : (what : List Going) (stage : Stage) → n.stage ≡ stage → Tells scene (actions_in (row_in stage n.offerer (signals.Refusal r.status))) what → Sends (own_acks asked r ++ what) (row s event)
  sends what stage is tells =
      sends_behind (row s event) s.acks begins (reception_of s.table (Kinds.Response r)).send None (takes_row s.calls s.table (occasion (office s) e) place (inputs.Refusal r.status) None None) (own_acks asked r) what
      (up_row s event source bytes r id asked up ∙ ap (responds_by (office s) e r begins (reception_of s.table (Kinds.Response r)).send id asked) rule_is)
      (own_acks_go reads names s refusal_scenes bytes r up.comes.read id asked up.stands refusal_class up.up)
      (takes_sends reads describes law (office s) refusal_scenes e place c n at_place.there at_place.stands (inputs.Refusal r.status) (signals.Refusal r.status) refl None None refusal_can what
      (subst (λ x. Tells scene (actions_in (row_in x n.offerer (signals.Refusal r.status))) what) (sym is) tells))

  pub first : (rung : Bool) → n.stage ≡ stages.Asked rung → WithOffer s c (λ offered. Sends (own_acks asked r ++ to_offerer c offered (status_passed_on r.status) ∷ []) (row s event))
  first rung is =
      let o = offer_came (office s) refusal_scenes place c n at_place.there at_place.stands (ap awaits_answer is) in
      (o.0, o.1, sends _ (stages.Asked rung) is (first_refused scene (asker_for c o.0) (asker_there (office s) e w c description o.0 refl o.1) r.status rung n.offerer))

  module _ (talks : has_session n.stage ≡ true) (waits : awaits_answer n.stage ≡ true) where
    pub inside : has_lost_the_call r.status ≡ false → WithOffer s c (λ offered. Sends (own_acks asked r ++ to_offerer c offered (status_passed_on r.status) ∷ []) (row s event))
    inside kept =
        let o = offer_came (office s) refusal_scenes place c n at_place.there at_place.stands waits in
        (o.0, o.1, sends _ n.stage refl (inside_refused scene (asker_for c o.0) (asker_there (office s) e w c description o.0 refl o.1) r.status n.stage n.offerer talks waits kept))

    reached : (end : End) → Reaches c scene end
    reached end =
        reaches (office s) e w c description n end (all_at HasSoundLegs s.calls.calls place c knows.dialogs.calls at_place.there) (all_at HasNumbersLeft s.calls.calls place c knows.left at_place.there)
        (all_at HasCallee s.calls.calls place c knows.callees.calls at_place.there) at_place.stands (talks_answered n.stage talks) refl

    abbrev OffererLeft : Transaction → Type 0
    OffererLeft offered = LeavesBoth (own_acks asked r ++ to_offerer c offered r.status ∷ []) c n.offerer (row s event)

    pub lost : has_lost_the_call r.status ≡ true → WithOffer s c OffererLeft
    lost is =
        let o = offer_came (office s) refusal_scenes place c n at_place.there at_place.stands waits in
        let across = reached (other n.offerer) in
        let own = reached n.offerer in (
          o.0,
          o.1,
          record {
            across = across.dialog;
            own = own.dialog;
            with_other = across.own;
            with_own = own.own;
            sends = subst (λ l. Sends l (row s event)) (sym (append_assoc (own_acks asked r) (to_offerer c o.0 r.status ∷ []) (bye across.dialog ∷ bye own.dialog ∷ [])))
                (sends _ n.stage refl (inside_lost scene (asker_for c o.0) (asker_there (office s) e w c description o.0 refl o.1) r.status c n.offerer across own n.stage talks waits is));
          },
        )

  pub given_up : (waits : Bool) → n.stage ≡ stages.Cancelling waits → Sends (own_acks asked r) (row s event)
  given_up waits is = subst (λ l. Sends l (row s event)) (append-nil (own_acks asked r)) (sends [] (stages.Cancelling waits) is (given_up_refused scene r.status waits n.offerer))
