-- The events that end a settled call of themselves: the end of its lifetime, and silence.
use Rattle.std.proofs.Common.{◌≡◌, ◌∙◌, ℕ, false, List, [], ◌∷◌, None, refl, ap, sym, subst}
use Rattle.events.specs.declared.event.Event.{Event}
use Rattle.call_media.specs.declared.end.End.{End}
use Rattle.call_media.specs.declared.end.End.TheVariants.{Callee, Caller}
use Rattle.call_core.specs.CallRows.{call_row}
use Rattle.call_core.specs.Settled.{settled_row}
use Rattle.call_core.specs.Table.{row_in}
use Rattle.call_core.specs.declared.action.CallTimer.TheVariants.{Lifetime}
use Rattle.call_core.specs.declared.input.Input.TheVariants as inputs
use Rattle.call_core.specs.declared.signal.Signal.TheVariants as signals
use Rattle.call_core.specs.declared.stage.Stage.{Stage}
use Rattle.call_core.specs.declared.stage.Stage.TheVariants as stages
use Rattle.call_core.specs.declared.stage.Standing.{Standing}
use Rattle.call_messages.specs.declared.scene.Scene.{Scene}
use Rattle.call_steps.specs.Rows.{takes_row}
use Rattle.call_steps.specs.Values.{without_offer}
use Rattle.calls.specs.Timing.{id}
use Rattle.calls.specs.declared.standing_call.StandingCall.{StandingCall}
use Rattle.calls.specs.declared.timer_id.CallTimerId.{CallTimerId}
use Rattle.call_trace.specs.declared.datagram.Datagram.{Datagram}
use Rattle.call_trace.specs.declared.datagram.Message.{Message}
use Rattle.plans.specs.CallRows.{call_timer_at, call_timer_row, occasion, takes, without_call_timer}
use Rattle.plans.specs.declared.setting.Setting.{Setting}
use Rattle.event_rows.specs.Rows.{only_counts, row, row_by, what_row}
use Rattle.event_rows.specs.State.{Contents, moment_at, office}
use Rattle.message_laws.specs.CalleeDialogs.{HasCallee, is_unanswered}
use Rattle.message_laws.specs.Messages.{AreMessages}
use Rattle.message_laws.specs.Sound.{HasSoundLegs}
use Rattle.message_laws.proofs.AwaitedOffers.Awaiting.{all_at}
use Rattle.message_laws.proofs.Messages.ReadBack.{SentIsRead}
use Rattle.message_laws.proofs.QuietEvents.Describing.{BodiesDescribe}
use Rattle.message_laws.proofs.TokenUse.Events.{few_tokens}
use Rattle.media_laws.specs.Coming.{HasNumbersLeft, scene_at}
use Rattle.media_laws.specs.Lines.{actions_in}
use Rattle.media_laws.specs.Standing.{AgentStands}
use Rattle.media_laws.specs.Taking.{KnowsLegs}
use Rattle.media_laws.proofs.Scenes.Reading.{Reading}
use Rattle.step_laws.specs.Acks.{LeavesOffererFirst}
use Rattle.step_laws.specs.Leaving.{StandsAt, bye}
use Rattle.step_laws.specs.Lifetimes.{FallsSilent, LifetimeIsOver}
use Rattle.step_laws.specs.Sending.{AllGo, Going, Sends}
use Rattle.step_laws.proofs.Expiry.{call_timer_is, due_at, same_dressed}
use Rattle.step_laws.proofs.Known.{legs_known, scenes_known}
use Rattle.step_laws.proofs.SpeakingEvents.{timer_comes}
use Rattle.step_laws.proofs.StepSends.{Reaches, reaches, row_sends, takes_sends}
use Rattle.step_laws.proofs.Telling.{Tells, tells_nothing, then_bye}

-- the line sends both ends a BYE
both_left : (s : Scene) (c : StandingCall) (x : End) (caller : Reaches c s Caller) (callee : Reaches c s Callee) → Tells s (actions_in (row_in stages.Settled x signals.Lifetime)) (bye caller.dialog ∷ bye callee.dialog ∷ [])
unfolding settled_row
both_left s c x caller callee =
    then_bye s Caller caller.dialog caller.has caller.leads caller.numbered (then_bye s Callee callee.dialog callee.has callee.leads callee.numbered (tells_nothing s))

silence_is : (s : Contents) (event : Event) (place : ℕ) (h : FallsSilent s event place)
    → row s event ≡ takes (without_call_timer (id h.number Lifetime) (office s)) (due_at s event) [] None None place inputs.Lifetime None
unfolding row what_row call_timer_row
silence_is s event place h =
    ap (row_by s event) h.counts
    ∙ (ap (what_row (office s) (moment_at s event.now) event.salt) h.silent
    ∙ ap (call_timer_at (without_call_timer (id h.number Lifetime) (office s)) (due_at s event) Lifetime) h.call)

module _ (reads : Reading) (describes : BodiesDescribe) (law : SentIsRead) (s : Contents) (event : Event) (t : List Datagram) (k : ℕ) (stands : AgentStands s t k) (place : ℕ) (c : StandingCall) (n : Standing) (at_place : StandsAt s place c n) (settled : n.stage ≡ stages.Settled) where
  abbrev due : Setting
  due = due_at s event

  abbrev scene : Scene
  scene = scene_at (office s) due (without_offer None None) c (call_row c.call inputs.Lifetime s.calls.pool due.now).description

  knows : KnowsLegs (office s)
  knows = legs_known (office s) stands.0 stands.1 t stands.2.1.known

  reached : (end : End) → Reaches c scene end
  reached end =
      reaches (office s) due (without_offer None None) c _ n end (all_at HasSoundLegs s.calls.calls place c knows.dialogs.calls at_place.there) (all_at HasNumbersLeft s.calls.calls place c knows.left at_place.there)
      (all_at HasCallee s.calls.calls place c knows.callees.calls at_place.there) at_place.stands (ap is_unanswered settled) refl

  ends_by : (key : CallTimerId) → only_counts s event ≡ None → row s event ≡ takes (without_call_timer key (office s)) due [] None None place inputs.Lifetime None → LeavesOffererFirst c Caller (row s event)
  ends_by key counts is =
      let same = same_dressed (office s) key due place inputs.Lifetime in
      let what = bye (reached Caller).dialog ∷ bye (reached Callee).dialog ∷ [] in
      let tells = subst (λ (stage : Stage). Tells scene (actions_in (row_in stage n.offerer signals.Lifetime)) what) (sym settled) (both_left scene c n.offerer (reached Caller) (reached Callee)) in
      record {
        own = (reached Caller).dialog;
        across = (reached Callee).dialog;
        with_own = (reached Caller).own;
        with_other = (reached Callee).own;
        sends = row_sends (row s event) s.acks [] None None (takes_row (without_call_timer key (office s)).calls s.table (occasion (office s) due) place inputs.Lifetime None None) what is refl
            (subst (λ d. (ms : List Message) → AreMessages d.sends ms → AllGo what d.sends ms) (sym same)
            (takes_sends reads describes law (office s) (scenes_known (office s) stands.0 stands.1 t stands.2.1.known (few_tokens s event counts)) due place c n at_place.there at_place.stands inputs.Lifetime signals.Lifetime refl None None
            (timer_comes Lifetime) what tells));
      }

  pub lifetime_over : LifetimeIsOver s event place → LeavesOffererFirst c Caller (row s event)
  lifetime_over h = ends_by h.timer.key h.counts (call_timer_is s event place Lifetime h)

  pub fallen_silent : FallsSilent s event place → LeavesOffererFirst c Caller (row s event)
  fallen_silent h = ends_by (id h.number Lifetime) h.counts (silence_is s event place h)
