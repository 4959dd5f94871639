-- The event of a BYE that a call of an agent takes.
use Rattle.std.proofs.Common.{◌≡◌, ◌∙◌, ◌++◌, ℕ, true, false, List, [], ◌∷◌, Option, Some, None, refl, ap, sym, subst}
use Rattle.std.proofs.lemmas.Bool.{false≢true}
use Rattle.sip_uri.specs.declared.uri.Addr.{Addr}
use Rattle.sip_message.specs.declared.message.Message.TheVariants as Kinds
use Rattle.sip_message.specs.declared.message.Request.{Request}
use Rattle.transactions.specs.Changes.{change_of}
use Rattle.transactions.specs.declared.change.Entry.{Entry}
use Rattle.transactions.specs.declared.transaction.Transaction.{Transaction}
use Rattle.events.specs.declared.event.Event.{Event}
use Rattle.call_media.specs.Ends.{other}
use Rattle.call_media.specs.declared.end.End.{End}
use Rattle.call_core.specs.CallRows.{call_row}
use Rattle.call_core.specs.Calls.{awaits_answer, has_session}
use Rattle.call_core.specs.Plans.{Step}
use Rattle.call_core.specs.Table.{row_in}
use Rattle.call_core.specs.declared.input.Input.TheVariants as inputs
use Rattle.call_core.specs.declared.signal.Signal.TheVariants as signals
use Rattle.call_core.specs.declared.stage.Stage.{Stage}
use Rattle.call_core.specs.declared.stage.Stage.TheVariants as stages
use Rattle.call_core.specs.declared.stage.Standing.{Standing}
use Rattle.call_rules.specs.Requests.{dialog_rule}
use Rattle.call_rules.specs.DialogRule as dialogrules
use Rattle.call_messages.specs.declared.scene.Scene.{Scene}
use Rattle.call_steps.specs.Rows.{counts, takes_row}
use Rattle.call_steps.specs.Values.{AskerValue, ComingValue, lent_asker, without_offer}
use Rattle.calls.specs.Finding.{awaits_ack}
use Rattle.calls.specs.declared.change.LegDialog.{LegDialog}
use Rattle.calls.specs.declared.standing_call.StandingCall.{StandingCall}
use Rattle.call_trace.specs.declared.datagram.Datagram.{Datagram}
use Rattle.plans.specs.CallRows.{asker, call_row as called_row, occasion, takes_request}
use Rattle.plans.specs.declared.setting.Setting.{Setting}
use Rattle.responses.specs.Responding.{stateless}
use Rattle.event_rows.specs.Rows.{row, rule_row}
use Rattle.event_rows.specs.State.{Contents, office}
use Rattle.message_laws.specs.Addresses.{IsSource}
use Rattle.message_laws.specs.CalleeDialogs.{HasCallee, is_unanswered}
use Rattle.message_laws.specs.Comings.{CanCome, KnowsScenes}
use Rattle.message_laws.specs.Sound.{HasSoundLegs}
use Rattle.message_laws.proofs.AwaitedOffers.Awaiting.{all_at}
use Rattle.message_laws.proofs.Traces.Comings.{bye_comes}
use Rattle.message_laws.proofs.QuietEvents.Describing.{BodiesDescribe}
use Rattle.message_laws.proofs.TokenUse.Events.{few_tokens}
use Rattle.message_laws.proofs.Messages.ReadBack.{SentIsRead}
use Rattle.message_laws.proofs.Messages.RequestViews.{FitsRule, request_fits}
use Rattle.media_laws.specs.Coming.{HasNumbersLeft, scene_at}
use Rattle.media_laws.specs.Lines.{actions_in}
use Rattle.media_laws.specs.Standing.{AgentStands}
use Rattle.media_laws.specs.Taking.{KnowsLegs}
use Rattle.media_laws.proofs.Scenes.Leaving.{rule_fits}
use Rattle.media_laws.proofs.Scenes.Reading.{Reading}
use Rattle.step_laws.specs.Coming.{BeginsTransaction}
use Rattle.step_laws.specs.Leaving.{IsBye, IsGoingOn, IsOfDialog, PassesBye, StandsAt, WithOffer, bye, okay, to_offerer}
use Rattle.step_laws.specs.Sending.{cancels, Going, Sends}
use Rattle.step_laws.proofs.AckLines.{bye_ends}
use Rattle.step_laws.proofs.Byes.{offering_passes, settled_passes, waits_for_ack}
use Rattle.step_laws.proofs.Cancels.{bye_cancels, bye_waits, can_cancel}
use Rattle.step_laws.proofs.ComingRows.{begun_row, setting_of}
use Rattle.step_laws.proofs.FitAnswers.{asker_for, asker_there}
use Rattle.step_laws.proofs.Known.{legs_known, scenes_known}
use Rattle.step_laws.proofs.StepSends.{row_sends, Reaches, counts_other, offer_came, reaches, takes_sends}
use Rattle.step_laws.proofs.Telling.{Tells}

-- a call that talks was answered
pub talks_answered : (stage : Stage) → has_session stage ≡ true → is_unanswered stage ≡ false
talks_answered (stages.Asked rung) h = absurd (false≢true h)
talks_answered (stages.Cancelling sent) h = absurd (false≢true h)
talks_answered (stages.Answered interval) h = refl
talks_answered stages.Settled h = refl
talks_answered (stages.Reasked rung cancelled) h = refl
talks_answered (stages.Reanswered interval) h = refl
talks_answered stages.Updating h = refl
talks_answered (stages.Ending interval) h = refl

module _ (reads : Reading) (describes : BodiesDescribe) (law : SentIsRead) (s : Contents) (event : Event) (scenes : KnowsScenes (office s)) (knows : KnowsLegs (office s)) (source : Addr) (bytes : List ℕ) (r : Request) (id : ℕ) (from : IsSource source) (begins : BeginsTransaction s event source bytes r id) (place : ℕ) (c : StandingCall) (n : Standing) (at_place : StandsAt s place c n) (end : End) (is_bye : IsBye s event r place end) where
  abbrev e : Setting
  e = setting_of s event source

  abbrev entries : List Entry
  entries = change_of s.table (Kinds.Request r) source ∷ []

  abbrev leg : Option LegDialog
  leg = counts s.calls.calls place end r.parts.cseq.number

  abbrev came : AskerValue
  came = asker r e id stateless

  abbrev step : Step
  step = call_row c.call (inputs.Bye end) s.calls.pool e.now

  abbrev w : ComingValue
  w = without_offer leg (Some came)

  abbrev scene : Scene
  scene = scene_at (office s) e w c step.description

  rule : dialog_rule s.calls.calls r ≡ dialogrules.Leaves place end
  rule = subst (FitsRule (office s) r) is_bye (request_fits (office s) r e.now)

  pub in_dialog : IsOfDialog r.parts c end
  in_dialog =
      let h = (rule_fits s.calls.calls r (dialogrules.Leaves place end) rule).0 c at_place.there in
      record { dialog = h.dialog; with_it = h.has; call_id = h.call_id; ours = h.ours; theirs = h.theirs }

  pub bye_row : row s event ≡ takes_request (office s) e r entries id place (inputs.Bye end) leg stateless
  unfolding called_row
  bye_row = begun_row s event source bytes r id begins ∙ ap (rule_row (office s) e r entries id) is_bye

  pub bye_can : CanCome (inputs.Bye end) w
  bye_can = bye_comes (office s) e bytes r id place end scenes from begins.comes.read (rule_fits s.calls.calls r (dialogrules.Leaves place end) rule).1

  pub bye_sends : (what : List Going) → Tells scene (actions_in (row_in n.stage n.offerer (signals.Bye end))) what → Sends what (row s event)
  bye_sends what tells =
      row_sends (row s event) s.acks entries None None (takes_row s.calls s.table (occasion (office s) e) place (inputs.Bye end) leg (Some came)) what bye_row refl
      (takes_sends reads describes law (office s) scenes e place c n at_place.there at_place.stands (inputs.Bye end) (signals.Bye end) refl leg (Some came) bye_can what tells)

  -- ---- an end that talks

  module _ (talks : has_session n.stage ≡ true) where
    to : Reaches c scene (other end)
    to =
        reaches (office s) e w c step.description n (other end) (all_at HasSoundLegs s.calls.calls place c knows.dialogs.calls at_place.there) (all_at HasNumbersLeft s.calls.calls place c knows.left at_place.there)
        (all_at HasCallee s.calls.calls place c knows.callees.calls at_place.there) at_place.stands (talks_answered n.stage talks) (counts_other c s.calls.calls place end r.parts.cseq.number)

    passes_bye : (before : List Going) → (Tells scene (actions_in (row_in n.stage n.offerer (signals.Bye end))) (before ++ bye to.dialog ∷ [])) → PassesBye before r c end (row s event)
    passes_bye before tells = record { came = in_dialog; across = to.dialog; with_other = to.own; sends = bye_sends _ tells }

    pub settled_bye : awaits_answer n.stage ≡ false → (awaits_ack n.stage ≡ true → end ≡ n.offerer) → PassesBye (okay r source ∷ []) r c end (row s event)
    settled_bye quiet acked = passes_bye (okay r source ∷ []) (settled_passes scene (lent_asker came) refl c end to n.stage n.offerer talks quiet acked)

    pub offering_bye : awaits_answer n.stage ≡ true → WithOffer s c (λ offered. PassesBye (okay r source ∷ to_offerer c offered 487 ∷ []) r c end (row s event))
    offering_bye waits =
        let o = offer_came (office s) scenes place c n at_place.there at_place.stands waits in (
          o.0,
          o.1,
          passes_bye (okay r source ∷ to_offerer c o.0 487 ∷ [])
              (offering_passes scene (lent_asker came) refl c end to (asker_for c o.0) (asker_there (office s) e w c step.description o.0 refl o.1) n.stage n.offerer talks waits),
        )

    pub unacknowledged_bye : awaits_ack n.stage ≡ true → end ≡ other n.offerer → Sends (okay r source ∷ []) (row s event)
    unacknowledged_bye waits is =
        bye_sends (okay r source ∷ [])
        (subst (λ x. Tells scene (actions_in (row_in n.stage n.offerer (signals.Bye x))) (okay r source ∷ [])) (sym is) (waits_for_ack scene (lent_asker came) refl n.stage n.offerer talks waits))

  -- ---- a caller that leaves before its INVITE has a final response

  pub early_bye : end ≡ n.offerer → n.stage ≡ stages.Asked true → (went : Transaction) → IsGoingOn s c went → WithOffer s c (λ offered. Sends (okay r source ∷ to_offerer c offered 487 ∷ cancels went ∷ []) (row s event))
  early_bye is stage went on =
      let o = offer_came (office s) scenes place c n at_place.there at_place.stands (ap awaits_answer stage) in
      let what = okay r source ∷ to_offerer c o.0 487 ∷ cancels went ∷ [] in (
        o.0,
        o.1,
        bye_sends what
            (subst (λ x. Tells scene (actions_in (row_in x n.offerer (signals.Bye end))) what) (sym stage)
            (subst (λ x. Tells scene (actions_in (row_in (stages.Asked true) n.offerer (signals.Bye x))) what) (sym is)
            (bye_cancels scene went (can_cancel s scenes c went on e w step.description) (asker_for c o.0) (asker_there (office s) e w c step.description o.0 refl o.1) (lent_asker came) refl n.offerer))),
      )

  pub silent_bye : end ≡ n.offerer → n.stage ≡ stages.Asked false → WithOffer s c (λ offered. Sends (okay r source ∷ to_offerer c offered 487 ∷ []) (row s event))
  silent_bye is stage =
      let o = offer_came (office s) scenes place c n at_place.there at_place.stands (ap awaits_answer stage) in
      let what = okay r source ∷ to_offerer c o.0 487 ∷ [] in (
        o.0,
        o.1,
        bye_sends what
            (subst (λ x. Tells scene (actions_in (row_in x n.offerer (signals.Bye end))) what) (sym stage)
            (subst (λ x. Tells scene (actions_in (row_in (stages.Asked false) n.offerer (signals.Bye x))) what) (sym is)
            (bye_waits scene (lent_asker came) refl (asker_for c o.0) (asker_there (office s) e w c step.description o.0 refl o.1) n.offerer))),
      )

  -- ---- an offerer whose ACK is waited for, once the end across has left

  pub both_left_bye : end ≡ n.offerer → (interval : ℕ) → n.stage ≡ stages.Ending interval → Sends (okay r source ∷ []) (row s event)
  both_left_bye same interval is =
      let what = okay r source ∷ [] in
      bye_sends what
      (subst (λ x. Tells scene (actions_in (row_in x n.offerer (signals.Bye end))) what) (sym is)
      (subst (λ x. Tells scene (actions_in (row_in (stages.Ending interval) n.offerer (signals.Bye x))) what) (sym same) (bye_ends scene (lent_asker came) refl interval n.offerer)))

-- ---- of an agent that stands after a trace

module _ (reads : Reading) (describes : BodiesDescribe) (law : SentIsRead) (s : Contents) (event : Event) (t : List Datagram) (k : ℕ) (stands : AgentStands s t k) (source : Addr) (bytes : List ℕ) (r : Request) (id : ℕ) (from : IsSource source) (begins : BeginsTransaction s event source bytes r id) (place : ℕ) (c : StandingCall) (n : Standing) (at_place : StandsAt s place c n) (end : End) (is_bye : IsBye s event r place end) where
  scenes : KnowsScenes (office s)
  scenes = scenes_known (office s) stands.0 stands.1 t stands.2.1.known (few_tokens s event begins.comes.counts)

  knows : KnowsLegs (office s)
  knows = legs_known (office s) stands.0 stands.1 t stands.2.1.known

  pub settled : has_session n.stage ≡ true → awaits_answer n.stage ≡ false → (awaits_ack n.stage ≡ true → end ≡ n.offerer) → PassesBye (okay r source ∷ []) r c end (row s event)
  settled = settled_bye reads describes law s event scenes knows source bytes r id from begins place c n at_place end is_bye

  pub offering : has_session n.stage ≡ true → awaits_answer n.stage ≡ true → WithOffer s c (λ offered. PassesBye (okay r source ∷ to_offerer c offered 487 ∷ []) r c end (row s event))
  offering = offering_bye reads describes law s event scenes knows source bytes r id from begins place c n at_place end is_bye

  pub unacknowledged : has_session n.stage ≡ true → awaits_ack n.stage ≡ true → end ≡ other n.offerer → Sends (okay r source ∷ []) (row s event)
  unacknowledged = unacknowledged_bye reads describes law s event scenes knows source bytes r id from begins place c n at_place end is_bye

  pub early : end ≡ n.offerer → n.stage ≡ stages.Asked true → (went : Transaction) → IsGoingOn s c went → WithOffer s c (λ offered. Sends (okay r source ∷ to_offerer c offered 487 ∷ cancels went ∷ []) (row s event))
  early = early_bye reads describes law s event scenes knows source bytes r id from begins place c n at_place end is_bye

  pub silent : end ≡ n.offerer → n.stage ≡ stages.Asked false → WithOffer s c (λ offered. Sends (okay r source ∷ to_offerer c offered 487 ∷ []) (row s event))
  silent = silent_bye reads describes law s event scenes knows source bytes r id from begins place c n at_place end is_bye

  pub both_left : end ≡ n.offerer → (interval : ℕ) → n.stage ≡ stages.Ending interval → Sends (okay r source ∷ []) (row s event)
  both_left = both_left_bye reads describes law s event scenes knows source bytes r id from begins place c n at_place end is_bye
