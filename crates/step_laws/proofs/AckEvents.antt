-- The events of a call whose 200 waits for its ACK.
use Rattle.std.proofs.Common.{◌≡◌, ◌∙◌, ℕ, true, List, [], ◌∷◌, Option, Some, None, refl, ap, sym, subst}
use Rattle.std.specs.Option.{option_copied}
use Rattle.std.specs.Prelude.{option_map}
use Rattle.sip_uri.specs.declared.uri.Addr.{Addr}
use Rattle.sip_message.specs.declared.message.Message.TheVariants as Kinds
use Rattle.sip_message.specs.declared.message.Request.{Request}
use Rattle.transactions.specs.Changes.{change_of}
use Rattle.transactions.specs.declared.change.Entry.{Entry}
use Rattle.events.specs.declared.event.Event.{Event}
use Rattle.events.specs.declared.sent.Sent.{Sent}
use Rattle.call_media.specs.Ends.{other}
use Rattle.call_media.specs.declared.end.End.{End}
use Rattle.call_core.specs.CallRows.{call_row}
use Rattle.call_core.specs.Calls.{has_session}
use Rattle.call_core.specs.Table.{row_in}
use Rattle.call_core.specs.declared.action.CallTimer.{CallTimer}
use Rattle.call_core.specs.declared.action.CallTimer.TheVariants as timers
use Rattle.call_core.specs.declared.input.Input.{Input}
use Rattle.call_core.specs.declared.input.Input.TheVariants as inputs
use Rattle.call_core.specs.declared.signal.Signal.{Signal}
use Rattle.call_core.specs.declared.signal.Signal.TheVariants as signals
use Rattle.call_core.specs.declared.stage.Stage.TheVariants as stages
use Rattle.call_core.specs.declared.stage.Standing.{Standing}
use Rattle.call_messages.specs.declared.scene.Scene.{Scene}
use Rattle.call_steps.specs.Rows.{takes_row}
use Rattle.call_steps.specs.Values.{lent, without_offer}
use Rattle.calls.specs.Finding.{awaits_ack}
use Rattle.calls.specs.declared.standing_call.StandingCall.{StandingCall}
use Rattle.call_trace.specs.declared.datagram.Datagram.{Datagram}
use Rattle.call_trace.specs.declared.datagram.Message.{Message}
use Rattle.plans.specs.CallRows.{ack_by, ack_row, occasion, timer_input, without_call_timer}
use Rattle.plans.specs.declared.setting.Setting.{Setting}
use Rattle.event_rows.specs.Rows.{row}
use Rattle.event_rows.specs.State.{Contents, office}
use Rattle.message_laws.specs.CalleeDialogs.{HasCallee}
use Rattle.message_laws.specs.Messages.{AreMessages}
use Rattle.message_laws.specs.Sound.{HasSoundLegs}
use Rattle.message_laws.proofs.AwaitedOffers.Awaiting.{all_at}
use Rattle.message_laws.proofs.Messages.ReadBack.{SentIsRead}
use Rattle.message_laws.proofs.QuietEvents.Describing.{BodiesDescribe}
use Rattle.message_laws.proofs.TokenUse.Events.{few_tokens}
use Rattle.message_laws.proofs.Traces.Comings.{alone_comes}
use Rattle.media_laws.specs.Coming.{HasNumbersLeft, scene_at}
use Rattle.media_laws.specs.Lines.{actions_in}
use Rattle.media_laws.specs.Standing.{AgentStands}
use Rattle.media_laws.specs.Steps.{IsSignalOf}
use Rattle.media_laws.specs.Taking.{KnowsLegs}
use Rattle.media_laws.proofs.Scenes.Reading.{Reading}
use Rattle.step_laws.specs.Acks.{IsAwaitedAck, LeavesOfferer, LeavesOffererFirst, answer_again}
use Rattle.step_laws.specs.Expiring.{CallTimerIsDue}
use Rattle.step_laws.specs.Leaving.{StandsAt, bye}
use Rattle.step_laws.specs.Sending.{AllGo, Going, Sends}
use Rattle.step_laws.proofs.AckLines.{ack_leaves, ack_settles, acked_answered, repeat_goes, wait_ends, wait_leaves}
use Rattle.step_laws.proofs.ComingRows.{passed_row, setting_of}
use Rattle.step_laws.proofs.Expiry.{call_timer_is, due_at, same_dressed}
use Rattle.step_laws.proofs.Known.{legs_known, scenes_known}
use Rattle.step_laws.proofs.SpeakingEvents.{timer_comes}
use Rattle.step_laws.proofs.StepSends.{Reaches, reaches, row_sends, takes_sends}
use Rattle.step_laws.proofs.Telling.{Tells}

copied_lent : (o : Option Sent) → option_copied (option_map lent o) ≡ o
copied_lent None = refl
copied_lent (Some x) = refl

module _ (reads : Reading) (describes : BodiesDescribe) (law : SentIsRead) (s : Contents) (event : Event) (t : List Datagram) (k : ℕ) (stands : AgentStands s t k) where
  knows : KnowsLegs (office s)
  knows = legs_known (office s) stands.0 stands.1 t stands.2.1.known

  module _ (place : ℕ) (c : StandingCall) (n : Standing) (at_place : StandsAt s place c n) (e : Setting) (input : Input) where
    abbrev scene : Scene
    scene = scene_at (office s) e (without_offer None None) c (call_row c.call input s.calls.pool e.now).description

    reached : awaits_ack n.stage ≡ true → (end : End) → Reaches c scene end
    reached waits end =
        reaches (office s) e (without_offer None None) c _ n end (all_at HasSoundLegs s.calls.calls place c knows.dialogs.calls at_place.there) (all_at HasNumbersLeft s.calls.calls place c knows.left at_place.there)
        (all_at HasCallee s.calls.calls place c knows.callees.calls at_place.there) at_place.stands (acked_answered n.stage waits) refl

  -- ---- the ACK

  module _ (source : Addr) (bytes : List ℕ) (r : Request) (place : ℕ) (ack : IsAwaitedAck s event source bytes r place) (c : StandingCall) (n : Standing) (at_place : StandsAt s place c n) where
    abbrev came : Setting
    came = setting_of s event source

    abbrev entries : List Entry
    entries = change_of s.table (Kinds.Request r) source ∷ []

    abbrev ack_scene : Scene
    ack_scene = scene place c n at_place came inputs.Ack

    ack_sends : (what : List Going) → Tells ack_scene (actions_in (row_in n.stage n.offerer signals.Ack)) what → Sends what (row s event)
    unfolding ack_row
    ack_sends what tells =
        row_sends (row s event) s.acks entries None None (takes_row s.calls s.table (occasion (office s) came) place inputs.Ack None None) what
        (passed_row s event source bytes r ack.comes ack.passes ∙ ap (ack_by (office s) came entries) ack.call) refl
        (takes_sends reads describes law (office s) (scenes_known (office s) stands.0 stands.1 t stands.2.1.known (few_tokens s event ack.comes.counts)) came place c n at_place.there at_place.stands inputs.Ack signals.Ack refl None None
        (alone_comes inputs.Ack tt refl tt) what tells)

    pub settled : awaits_ack n.stage ≡ true → has_session n.stage ≡ true → Sends [] (row s event)
    settled waits talks = ack_sends [] (ack_settles ack_scene n.stage n.offerer waits talks)

    pub left : (interval : ℕ) → n.stage ≡ stages.Ending interval → LeavesOfferer c n.offerer (row s event)
    left interval is =
        let own = reached place c n at_place came inputs.Ack (ap awaits_ack is) n.offerer in
        record {
          own = own.dialog;
          with_own = own.own;
          sends = ack_sends (bye own.dialog ∷ []) (subst (λ x. Tells ack_scene (actions_in (row_in x n.offerer signals.Ack)) (bye own.dialog ∷ [])) (sym is) (ack_leaves ack_scene c n.offerer own interval));
        }

  -- ---- a timer of the call

  module _ (place : ℕ) (c : StandingCall) (n : Standing) (at_place : StandsAt s place c n) (kind : CallTimer) (h : CallTimerIsDue s event place kind) (signal : Signal) (is : IsSignalOf c.call (timer_input kind) signal) where
    abbrev due : Setting
    due = due_at s event

    timer_sends : (what : List Going) → Tells (scene place c n at_place due (timer_input kind)) (actions_in (row_in n.stage n.offerer signal)) what → Sends what (row s event)
    timer_sends what tells =
        let same = same_dressed (office s) h.timer.key due place (timer_input kind) in
        row_sends (row s event) s.acks [] None None (takes_row (without_call_timer h.timer.key (office s)).calls s.table (occasion (office s) due) place (timer_input kind) None None) what (call_timer_is s event place kind h) refl
        (subst (λ d. (ms : List Message) → AreMessages d.sends ms → AllGo what d.sends ms) (sym same)
        (takes_sends reads describes law (office s) (scenes_known (office s) stands.0 stands.1 t stands.2.1.known (few_tokens s event h.counts)) due place c n at_place.there at_place.stands (timer_input kind) signal is None None
        (timer_comes kind) what tells))

  module _ (place : ℕ) (c : StandingCall) (n : Standing) (at_place : StandsAt s place c n) where
    pub repeated : CallTimerIsDue s event place timers.Repeat → awaits_ack n.stage ≡ true → Sends (answer_again c.answer) (row s event)
    repeated h waits =
        timer_sends place c n at_place timers.Repeat h signals.Repeat refl (answer_again c.answer)
        (repeat_goes (scene place c n at_place (due_at s event) inputs.Repeat) c.answer (copied_lent c.answer) n.stage n.offerer waits)

    pub unacknowledged : CallTimerIsDue s event place timers.Wait → awaits_ack n.stage ≡ true → has_session n.stage ≡ true → LeavesOffererFirst c n.offerer (row s event)
    unacknowledged h waits talks =
        let there = reached place c n at_place (due_at s event) inputs.Wait waits in
        let own = there n.offerer in
        let across = there (other n.offerer) in
        record {
          own = own.dialog;
          across = across.dialog;
          with_own = own.own;
          with_other = across.own;
          sends = timer_sends place c n at_place timers.Wait h signals.Wait refl _ (wait_ends (scene place c n at_place (due_at s event) inputs.Wait) c n.offerer own across n.stage waits talks);
        }

    pub left_unacknowledged : CallTimerIsDue s event place timers.Wait → (interval : ℕ) → n.stage ≡ stages.Ending interval → LeavesOfferer c n.offerer (row s event)
    left_unacknowledged h interval is =
        let scene_then = scene place c n at_place (due_at s event) inputs.Wait in
        let own = reached place c n at_place (due_at s event) inputs.Wait (ap awaits_ack is) n.offerer in
        record {
          own = own.dialog;
          with_own = own.own;
          sends = timer_sends place c n at_place timers.Wait h signals.Wait refl (bye own.dialog ∷ []) (subst (λ x. Tells scene_then (actions_in (row_in x n.offerer signals.Wait)) (bye own.dialog ∷ [])) (sym is) (wait_leaves scene_then c n.offerer own interval));
        }
