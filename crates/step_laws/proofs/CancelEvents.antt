-- The event of a CANCEL that a call of an agent takes.
use Rattle.std.proofs.Common.{◌≡◌, ◌∙◌, ℕ, Bool, true, false, codes, List, [], ◌∷◌, Some, None, refl, ap, sym, subst}
use Rattle.std.specs.Prelude.{slice_get}
use Rattle.std.proofs.lemmas.Slice.Eq.{bytes_eq-Decides}
use Rattle.sip_uri.specs.declared.uri.Addr.{Addr}
use Rattle.sip_message.specs.declared.message.Message.TheVariants as Kinds
use Rattle.sip_message.specs.declared.message.Request.{Request}
use Rattle.transactions.specs.Changes.{change_of}
use Rattle.transactions.specs.declared.change.Entry.{Entry}
use Rattle.transactions.specs.declared.transaction.Transaction.{Transaction}
use Rattle.events.specs.declared.event.Event.{Event}
use Rattle.call_core.specs.CallRows.{call_row}
use Rattle.call_core.specs.Calls.{awaits_answer}
use Rattle.call_core.specs.Plans.{Step}
use Rattle.call_core.specs.Table.{row_in}
use Rattle.call_core.specs.declared.input.Input.TheVariants as inputs
use Rattle.call_core.specs.declared.signal.Signal.TheVariants as signals
use Rattle.call_core.specs.declared.stage.Cancelled.TheVariants.{Never, PassedOn, Waits}
use Rattle.call_core.specs.declared.stage.Stage.{Stage}
use Rattle.call_core.specs.declared.stage.Stage.TheVariants as stages
use Rattle.call_core.specs.declared.stage.Standing.{Standing}
use Rattle.call_messages.specs.declared.scene.Scene.{Scene}
use Rattle.call_steps.specs.Rows.{takes_row}
use Rattle.call_steps.specs.Values.{AskerValue, ComingValue, lent_asker, without_offer}
use Rattle.calls.specs.declared.standing_call.StandingCall.{StandingCall}
use Rattle.call_trace.specs.declared.datagram.Datagram.{Datagram}
use Rattle.plans.specs.CallRows.{asker, call_row as called_row, occasion, tag_at, takes_request}
use Rattle.plans.specs.declared.setting.Setting.{Setting}
use Rattle.event_rows.specs.Rows.{row, rule_row}
use Rattle.event_rows.specs.State.{Contents, office}
use Rattle.message_laws.specs.Addresses.{IsSource}
use Rattle.message_laws.specs.Comings.{CanCome, KnowsScenes}
use Rattle.message_laws.proofs.Traces.Comings.{cancel_comes}
use Rattle.message_laws.proofs.QuietEvents.Describing.{BodiesDescribe}
use Rattle.message_laws.proofs.TokenUse.Events.{few_tokens}
use Rattle.message_laws.proofs.Messages.ReadBack.{SentIsRead}
use Rattle.media_laws.specs.Coming.{scene_at}
use Rattle.media_laws.specs.Lines.{actions_in}
use Rattle.media_laws.specs.Standing.{AgentStands}
use Rattle.media_laws.proofs.Scenes.Reading.{Reading}
use Rattle.step_laws.specs.Coming.{BeginsTransaction}
use Rattle.step_laws.specs.Leaving.{IsCancel, IsGoingOn, StandsAt, WithOffer, okay, to_offerer}
use Rattle.step_laws.specs.Sending.{Going, Sends, cancels}
use Rattle.step_laws.proofs.Cancels.{again_passed, again_waits, can_cancel, cancel_cancels, cancel_waits, inside_cancels, inside_waits}
use Rattle.step_laws.proofs.ComingRows.{begun_row, setting_of}
use Rattle.step_laws.proofs.FitAnswers.{asker_for, asker_there}
use Rattle.step_laws.proofs.Known.{scenes_known}
use Rattle.step_laws.proofs.StepSends.{offer_came, row_sends, takes_sends}
use Rattle.step_laws.proofs.Telling.{Tells}

module _ (reads : Reading) (describes : BodiesDescribe) (law : SentIsRead) (s : Contents) (event : Event) (t : List Datagram) (k : ℕ) (stands : AgentStands s t k) (source : Addr) (bytes : List ℕ) (r : Request) (id : ℕ) (from : IsSource source) (begins : BeginsTransaction s event source bytes r id) (place : ℕ) (c : StandingCall) (n : Standing) (at_place : StandsAt s place c n) (is_cancel : IsCancel s event r place) where
  scenes : KnowsScenes (office s)
  scenes = scenes_known (office s) stands.0 stands.1 t stands.2.1.known (few_tokens s event begins.comes.counts)

  abbrev e : Setting
  e = setting_of s event source

  abbrev entries : List Entry
  entries = change_of s.table (Kinds.Request r) source ∷ []

  abbrev tag : List ℕ
  tag = tag_at (slice_get s.calls.calls place)

  abbrev came : AskerValue
  came = asker r e id tag

  abbrev step : Step
  step = call_row c.call inputs.Cancel s.calls.pool e.now

  abbrev w : ComingValue
  w = without_offer None (Some came)

  abbrev scene : Scene
  scene = scene_at (office s) e w c step.description

  pub cancel_row : row s event ≡ takes_request (office s) e r entries id place inputs.Cancel None tag
  unfolding called_row
  cancel_row = begun_row s event source bytes r id begins ∙ ap (rule_row (office s) e r entries id) is_cancel.rule

  pub cancel_can : CanCome inputs.Cancel w
  cancel_can = cancel_comes (office s) e bytes r id place scenes from begins.comes.read ((bytes_eq-Decides r.method (codes "CANCEL")).0 is_cancel.method)

  sends : (what : List Going) (stage : Stage) → n.stage ≡ stage → Tells scene (actions_in (row_in stage n.offerer signals.Cancel)) what → Sends what (row s event)
  sends what stage is tells =
      row_sends (row s event) s.acks entries None None (takes_row s.calls s.table (occasion (office s) e) place inputs.Cancel None (Some came)) what cancel_row refl
      (takes_sends reads describes law (office s) scenes e place c n at_place.there at_place.stands inputs.Cancel signals.Cancel refl None (Some came) cancel_can what
      (subst (λ x. Tells scene (actions_in (row_in x n.offerer signals.Cancel)) what) (sym is) tells))

  pub rung : n.stage ≡ stages.Asked true → (went : Transaction) → IsGoingOn s c went → WithOffer s c (λ offered. Sends (okay r source ∷ to_offerer c offered 487 ∷ cancels went ∷ []) (row s event))
  rung is went on =
      let o = offer_came (office s) scenes place c n at_place.there at_place.stands (ap awaits_answer is) in (
        o.0,
        o.1,
        sends _ (stages.Asked true) is
            (cancel_cancels scene went (can_cancel s scenes c went on e w step.description) (asker_for c o.0) (asker_there (office s) e w c step.description o.0 refl o.1) (lent_asker came) refl n.offerer),
      )

  pub silent : n.stage ≡ stages.Asked false → WithOffer s c (λ offered. Sends (okay r source ∷ to_offerer c offered 487 ∷ []) (row s event))
  silent is =
      let o = offer_came (office s) scenes place c n at_place.there at_place.stands (ap awaits_answer is) in (
        o.0,
        o.1,
        sends _ (stages.Asked false) is
            (cancel_waits scene (lent_asker came) refl (asker_for c o.0) (asker_there (office s) e w c step.description o.0 refl o.1) n.offerer),
      )

  pub inside : n.stage ≡ stages.Reasked true Never → (went : Transaction) → IsGoingOn s c went → Sends (okay r source ∷ cancels went ∷ []) (row s event)
  inside is went on = sends _ (stages.Reasked true Never) is (inside_cancels scene went (can_cancel s scenes c went on e w step.description) (lent_asker came) refl n.offerer)

  pub inside_silent : n.stage ≡ stages.Reasked false Never → Sends (okay r source ∷ []) (row s event)
  inside_silent is = sends _ (stages.Reasked false Never) is (inside_waits scene (lent_asker came) refl n.offerer)

  -- a further one
  pub waiting : (rung : Bool) → n.stage ≡ stages.Reasked rung Waits → Sends (okay r source ∷ []) (row s event)
  waiting rung is = sends _ (stages.Reasked rung Waits) is (again_waits scene (lent_asker came) refl rung n.offerer)

  pub passed : (rung : Bool) → n.stage ≡ stages.Reasked rung PassedOn → Sends (okay r source ∷ []) (row s event)
  passed rung is = sends _ (stages.Reasked rung PassedOn) is (again_passed scene (lent_asker came) refl rung n.offerer)
