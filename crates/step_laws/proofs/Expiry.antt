-- A timer that ends the wait for a final response: the row of its event, and what that sends.
use Rattle.std.proofs.Common.{◌≡◌, ◌∙◌, ◌≤◌, ◌<◌, ℕ, Bool, true, cond, List, [], ◌∷◌, Option, Some, None, refl, ap, sym, subst}
use Rattle.std.specs.Prelude.{slice_get}
use Rattle.std.proofs.lemmas.Bool.{false≢true, le-leb, lt-leb}
use Rattle.timers.specs.Queue.{first_due}
use Rattle.timers.specs.declared.timers.Timer.{Timer}
use Rattle.transactions.specs.Changes.{fire_of}
use Rattle.transactions.specs.Slots.{at}
use Rattle.transactions.specs.declared.transaction.TimerId.{TimerId}
use Rattle.transactions.specs.declared.transaction.Transaction.{Transaction}
use Rattle.events.specs.declared.event.Event.{Event}
use Rattle.call_media.specs.Ends.{other}
use Rattle.call_media.specs.declared.end.End.{End}
use Rattle.call_core.specs.Asked.{asked_row}
use Rattle.call_core.specs.CallRows.{call_row}
use Rattle.call_core.specs.Calls.{awaits_answer, has_session}
use Rattle.call_core.specs.Reasked.{reasked_row}
use Rattle.call_core.specs.Table.{row_in}
use Rattle.call_core.specs.Updating.{updating_row}
use Rattle.call_core.specs.declared.action.Action.TheVariants.{Abandon}
use Rattle.call_core.specs.declared.action.CallTimer.{CallTimer}
use Rattle.call_core.specs.declared.action.CallTimer.TheVariants as timers
use Rattle.call_core.specs.declared.input.Input.{Input}
use Rattle.call_core.specs.declared.input.Input.TheVariants as inputs
use Rattle.call_core.specs.declared.signal.Signal.{Signal}
use Rattle.call_core.specs.declared.signal.Signal.TheVariants as signals
use Rattle.call_core.specs.declared.stage.Cancelled.{Cancelled}
use Rattle.call_core.specs.declared.stage.Stage.{Stage}
use Rattle.call_core.specs.declared.stage.Stage.TheVariants as stages
use Rattle.call_core.specs.declared.stage.Standing.{Standing}
use Rattle.call_messages.specs.declared.scene.Asker.{Asker}
use Rattle.call_messages.specs.declared.scene.Scene.{Scene}
use Rattle.call_steps.specs.Rows.{takes_by, takes_row}
use Rattle.call_steps.specs.Values.{ComingValue, without_offer}
use Rattle.calls.specs.declared.standing_call.StandingCall.{StandingCall}
use Rattle.calls.specs.declared.timer_id.CallTimerId.{CallTimerId}
use Rattle.call_trace.specs.declared.datagram.Datagram.{Datagram}
use Rattle.call_trace.specs.declared.datagram.Message.{Message}
use Rattle.plans.specs.CallRows.{call_timer_at, call_timer_row, occasion, of_plan, takes, timed_out, timed_out_at, timeout_row, timer_input, without_call_timer}
use Rattle.plans.specs.Office.{Office}
use Rattle.plans.specs.Plan.{moves}
use Rattle.plans.specs.declared.setting.Setting.{Setting}
use Rattle.event_rows.specs.Rows.{due_row, fires_by, no_source, row, row_by, setting, timer_row, what_row}
use Rattle.event_rows.specs.State.{Contents, moment_at, office}
use Rattle.message_laws.specs.CalleeDialogs.{HasCallee}
use Rattle.message_laws.specs.Comings.{CanCome, KnowsScenes}
use Rattle.message_laws.specs.Messages.{AreMessages}
use Rattle.message_laws.specs.Sound.{HasSoundLegs}
use Rattle.message_laws.proofs.AwaitedOffers.Awaiting.{all_at}
use Rattle.message_laws.proofs.Traces.Comings.{alone_comes}
use Rattle.message_laws.proofs.QuietEvents.Describing.{BodiesDescribe}
use Rattle.message_laws.proofs.TokenUse.Events.{few_tokens}
use Rattle.message_laws.proofs.Messages.ReadBack.{SentIsRead}
use Rattle.media_laws.specs.Coming.{HasNumbersLeft, scene_at}
use Rattle.media_laws.specs.Lines.{actions_in}
use Rattle.media_laws.specs.Standing.{AgentStands}
use Rattle.media_laws.specs.Steps.{IsSignalOf}
use Rattle.media_laws.specs.Taking.{KnowsLegs}
use Rattle.media_laws.proofs.Scenes.Reading.{Reading}
use Rattle.media_laws.proofs.OfferPairs.Taking.{abandons_none}
use Rattle.step_laws.specs.Expiring.{CallTimerIsDue, LeavesBoth, LimitIsReached, RequestTimesOut}
use Rattle.step_laws.specs.Leaving.{IsGoingOn, StandsAt, WithOffer, bye, to_offerer}
use Rattle.step_laws.specs.Repeats.{TimerIsDue}
use Rattle.step_laws.specs.Sending.{AllGo, Going, Sends, cancels, responds}
use Rattle.step_laws.proofs.ByeEvents.{talks_answered}
use Rattle.step_laws.proofs.Cancels.{can_cancel, limit_cancels}
use Rattle.step_laws.proofs.FitAnswers.{asker_for, asker_there}
use Rattle.step_laws.proofs.Known.{legs_known, scenes_known}
use Rattle.step_laws.proofs.StepSends.{Reaches, offer_came, reaches, row_sends, takes_sends}
use Rattle.step_laws.proofs.Telling.{Tells, tells_nothing, then_bye, then_refusal, then_silent}

-- ---- the lines

module _ (s : Scene) (o : Asker) (asked : s.offer ≡ Some o) where
  -- timer B of a first INVITE
  pub first_times_out : (rung : Bool) (x : End) → Tells s (actions_in (row_in (stages.Asked rung) x signals.TimedOut)) (responds o.parts.now o.source 408 ∷ [])
  unfolding asked_row
  first_times_out rung x = then_refusal s o x 408 asked (tells_nothing s)

  module _ (c : StandingCall) (x : End) (across : Reaches c s (other x)) (own : Reaches c s x) where
    abbrev pub three : List Going
    three = responds o.parts.now o.source 408 ∷ bye across.dialog ∷ bye own.dialog ∷ []

    pub inside_times_out : (stage : Stage) → has_session stage ≡ true → awaits_answer stage ≡ true → Tells s (actions_in (row_in stage x signals.TimedOut)) three
    unfolding reasked_row updating_row
    inside_times_out (stages.Asked rung) talks waits = absurd (false≢true talks)
    inside_times_out (stages.Cancelling sent) talks waits = absurd (false≢true talks)
    inside_times_out (stages.Answered interval) talks waits = absurd (false≢true waits)
    inside_times_out stages.Settled talks waits = absurd (false≢true waits)
    inside_times_out (stages.Reasked rung cancelled) talks waits =
        then_refusal s o x 408 asked (then_bye s (other x) across.dialog across.has across.leads across.numbered (then_bye s x own.dialog own.has own.leads own.numbered (tells_nothing s)))
    inside_times_out (stages.Reanswered interval) talks waits = absurd (false≢true waits)
    inside_times_out stages.Updating talks waits =
        then_refusal s o x 408 asked (then_bye s (other x) across.dialog across.has across.leads across.numbered (then_bye s x own.dialog own.has own.leads own.numbered (tells_nothing s)))
    inside_times_out (stages.Ending interval) talks waits = absurd (false≢true talks)

    pub inside_limit : (cancelled : Cancelled) → Tells s (actions_in (row_in (stages.Reasked true cancelled) x signals.Limit)) three
    unfolding reasked_row
    inside_limit cancelled =
        then_refusal s o x 408 asked (then_bye s (other x) across.dialog across.has across.leads across.numbered (then_bye s x own.dialog own.has own.leads own.numbered
        (then_silent s (Abandon (other x)) (λ tokens. abandons_none s tokens (other x)) (tells_nothing s))))

-- ---- the rows

same_by : (s : Office) (timer : CallTimerId) (e : Setting) (place : ℕ) (input : Input) (c : Option StandingCall)
    → (takes_by (without_call_timer timer s).calls s.table (occasion s e) place input None None c).dressed ≡ (takes_by s.calls s.table (occasion s e) place input None None c).dressed
same_by s timer e place input None = refl
same_by s timer e place input (Some c) = refl

-- what a call sends hangs on no timer
pub same_dressed : (s : Office) (timer : CallTimerId) (e : Setting) (place : ℕ) (input : Input)
    → (takes_row (without_call_timer timer s).calls s.table (occasion s e) place input None None).dressed ≡ (takes_row s.calls s.table (occasion s e) place input None None).dressed
unfolding takes_row
same_dressed s timer e place input = same_by s timer e place input (slice_get s.calls.calls place)

module _ (s : Contents) (event : Event) where
  abbrev pub due_at : Setting
  due_at = setting (moment_at s event.now) event.salt no_source

  call_first : (timer : Timer CallTimerId) (o : Option (Timer TimerId)) → ((other : Timer TimerId) → o ≡ Some other → timer.at < other.at) → due_row (office s) due_at o (Some timer) ≡ call_timer_row (office s) due_at timer.key
  call_first timer None before = refl
  call_first timer (Some other) before =
      ap (λ b. cond b (timer_row (office s) due_at other.key) (call_timer_row (office s) due_at timer.key)) (lt-leb other.at timer.at (before other refl))

  table_first : (timer : Timer TimerId) (o : Option (Timer CallTimerId)) → ((other : Timer CallTimerId) → o ≡ Some other → timer.at ≤ other.at) → due_row (office s) due_at (Some timer) o ≡ timer_row (office s) due_at timer.key
  table_first timer None before = refl
  table_first timer (Some other) before =
      ap (λ b. cond b (timer_row (office s) due_at timer.key) (call_timer_row (office s) due_at other.key)) (le-leb timer.at other.at (before other refl))

  pub call_timer_is : (place : ℕ) (kind : CallTimer) (h : CallTimerIsDue s event place kind) → row s event ≡ takes (without_call_timer h.timer.key (office s)) due_at [] None None place (timer_input kind) None
  unfolding row what_row call_timer_row
  call_timer_is place kind h =
      ap (row_by s event) h.counts
      ∙ (ap (what_row (office s) (moment_at s event.now) event.salt) h.due
      ∙ (ap (due_row (office s) due_at (first_due s.table.timers (moment_at s event.now))) h.first
      ∙ (call_first h.timer (first_due s.table.timers (moment_at s event.now)) h.before
      ∙ (ap (call_timer_at (without_call_timer h.timer.key (office s)) due_at h.timer.key.timer) h.call
      ∙ ap (λ k. takes (without_call_timer h.timer.key (office s)) due_at [] None None place (timer_input k) None) h.kind_is))))

  -- a timer of a transaction
  pub table_timer_is : (timer : Timer TimerId) → TimerIsDue s event timer → row s event ≡ timer_row (office s) due_at timer.key
  unfolding row what_row
  table_timer_is timer h =
      ap (row_by s event) h.counts
      ∙ (ap (what_row (office s) (moment_at s event.now) event.salt) h.due
      ∙ (ap (λ o. due_row (office s) due_at o (first_due s.calls.timers (moment_at s event.now))) h.first ∙ table_first timer (first_due s.calls.timers (moment_at s event.now)) h.before))

  pub timeout_is : (place : ℕ) (h : RequestTimesOut s event place) → row s event ≡ takes (office s) due_at (fire_of h.timer.key ∷ []) None None place inputs.TimedOut None
  unfolding row what_row timer_row timeout_row
  timeout_is place h =
      let fires = fire_of h.timer.key ∷ [] in
      ap (row_by s event) h.counts
      ∙ (ap (what_row (office s) (moment_at s event.now) event.salt) h.due
      ∙ (ap (λ o. due_row (office s) due_at o (first_due s.calls.timers (moment_at s event.now))) h.first
      ∙ (table_first h.timer (first_due s.calls.timers (moment_at s event.now)) h.before
      ∙ (ap (fires_by (office s) due_at h.timer.key) h.ends
      ∙ (ap (λ b. cond b (timed_out (office s) due_at fires (at s.table.slots h.timer.key.id)) (of_plan (office s) (moves fires None))) h.times
      ∙ (ap (timed_out (office s) due_at fires) h.stands
      ∙ ap (timed_out_at (office s) due_at fires) h.call))))))

-- ---- of an agent that stands after a trace

module _ (reads : Reading) (describes : BodiesDescribe) (law : SentIsRead) (s : Contents) (event : Event) (t : List Datagram) (k : ℕ) (stands : AgentStands s t k) (place : ℕ) (c : StandingCall) (n : Standing) (at_place : StandsAt s place c n) where
  abbrev e : Setting
  e = due_at s event

  abbrev w : ComingValue
  w = without_offer None None

  module _ (scenes : KnowsScenes (office s)) (input : Input) (signal : Signal) (is : IsSignalOf c.call input signal) (can : CanCome input (without_offer None None)) where
    abbrev scene : Scene
    scene = scene_at (office s) e w c (call_row c.call input s.calls.pool e.now).description

    due_sends : (what : List Going) (stage : Stage) → n.stage ≡ stage → Tells scene (actions_in (row_in stage n.offerer signal)) what → (ms : List Message)
        → AreMessages (takes_row s.calls s.table (occasion (office s) e) place input None None).dressed.sends ms → AllGo what (takes_row s.calls s.table (occasion (office s) e) place input None None).dressed.sends ms
    due_sends what stage is_stage tells =
        takes_sends reads describes law (office s) scenes e place c n at_place.there at_place.stands input signal is None None can what
        (subst (λ x. Tells scene (actions_in (row_in x n.offerer signal)) what) (sym is_stage) tells)

    knows : KnowsLegs (office s)
    knows = legs_known (office s) stands.0 stands.1 t stands.2.1.known

    there : has_session n.stage ≡ true → (end : End) → Reaches c scene end
    there talks end =
        reaches (office s) e w c _ n end (all_at HasSoundLegs s.calls.calls place c knows.dialogs.calls at_place.there) (all_at HasNumbersLeft s.calls.calls place c knows.left at_place.there)
        (all_at HasCallee s.calls.calls place c knows.callees.calls at_place.there) at_place.stands (talks_answered n.stage talks) refl

  -- ---- the limit

  module _ (h : LimitIsReached s event place) where
    limit_scenes : KnowsScenes (office s)
    limit_scenes = scenes_known (office s) stands.0 stands.1 t stands.2.1.known (few_tokens s event h.counts)

    limit_comes : CanCome inputs.Limit (without_offer None None)
    limit_comes = alone_comes inputs.Limit tt refl tt

    limit_sends : (what : List Going) (stage : Stage) → n.stage ≡ stage
        → Tells (scene_at (office s) e w c (call_row c.call inputs.Limit s.calls.pool e.now).description) (actions_in (row_in stage n.offerer signals.Limit)) what → Sends what (row s event)
    limit_sends what stage is tells =
        let same = same_dressed (office s) h.timer.key e place inputs.Limit in
        row_sends (row s event) s.acks [] None None (takes_row (without_call_timer h.timer.key (office s)).calls s.table (occasion (office s) e) place inputs.Limit None None) what (call_timer_is s event place timers.Limit h) refl
        (subst (λ d. (ms : List Message) → AreMessages d.sends ms → AllGo what d.sends ms) (sym same) (due_sends limit_scenes inputs.Limit signals.Limit refl limit_comes what stage is tells))

    pub ringing : n.stage ≡ stages.Asked true → (went : Transaction) → IsGoingOn s c went → WithOffer s c (λ offered. Sends (to_offerer c offered 480 ∷ cancels went ∷ []) (row s event))
    ringing is went on =
        let o = offer_came (office s) limit_scenes place c n at_place.there at_place.stands (ap awaits_answer is) in
        let description = (call_row c.call inputs.Limit s.calls.pool e.now).description in (
          o.0,
          o.1,
          limit_sends _ (stages.Asked true) is
              (limit_cancels (scene_at (office s) e w c description) went (can_cancel s limit_scenes c went on e w description) (asker_for c o.0) (asker_there (office s) e w c description o.0 refl o.1) n.offerer),
        )

    pub inside_ringing : (cancelled : Cancelled) → n.stage ≡ stages.Reasked true cancelled → WithOffer s c (λ offered. LeavesBoth (to_offerer c offered 408 ∷ []) c n.offerer (row s event))
    inside_ringing cancelled is =
        let o = offer_came (office s) limit_scenes place c n at_place.there at_place.stands (ap awaits_answer is) in
        let description = (call_row c.call inputs.Limit s.calls.pool e.now).description in
        let reached = there limit_scenes inputs.Limit signals.Limit refl limit_comes (ap has_session is) in
        let across = reached (other n.offerer) in
        let own = reached n.offerer in (
          o.0,
          o.1,
          record {
            across = across.dialog;
            own = own.dialog;
            with_other = across.own;
            with_own = own.own;
            sends = limit_sends _ (stages.Reasked true cancelled) is
                (inside_limit (scene_at (office s) e w c description) (asker_for c o.0) (asker_there (office s) e w c description o.0 refl o.1) c n.offerer across own cancelled);
          },
        )

  -- ---- timers B and F

  module _ (h : RequestTimesOut s event place) where
    timed_scenes : KnowsScenes (office s)
    timed_scenes = scenes_known (office s) stands.0 stands.1 t stands.2.1.known (few_tokens s event h.counts)

    timed_comes : CanCome inputs.TimedOut (without_offer None None)
    timed_comes = alone_comes inputs.TimedOut tt refl tt

    timed_sends : (what : List Going) (stage : Stage) → n.stage ≡ stage
        → Tells (scene_at (office s) e w c (call_row c.call inputs.TimedOut s.calls.pool e.now).description) (actions_in (row_in stage n.offerer signals.TimedOut)) what → Sends what (row s event)
    timed_sends what stage is tells =
        row_sends (row s event) s.acks (fire_of h.timer.key ∷ []) None None (takes_row s.calls s.table (occasion (office s) e) place inputs.TimedOut None None) what (timeout_is s event place h) refl
        (due_sends timed_scenes inputs.TimedOut signals.TimedOut refl timed_comes what stage is tells)

    pub unanswered : (rung : Bool) → n.stage ≡ stages.Asked rung → WithOffer s c (λ offered. Sends (to_offerer c offered 408 ∷ []) (row s event))
    unanswered rung is =
        let o = offer_came (office s) timed_scenes place c n at_place.there at_place.stands (ap awaits_answer is) in
        let description = (call_row c.call inputs.TimedOut s.calls.pool e.now).description in (
          o.0,
          o.1,
          timed_sends _ (stages.Asked rung) is
              (first_times_out (scene_at (office s) e w c description) (asker_for c o.0) (asker_there (office s) e w c description o.0 refl o.1) rung n.offerer),
        )

    pub inside : has_session n.stage ≡ true → awaits_answer n.stage ≡ true → WithOffer s c (λ offered. LeavesBoth (to_offerer c offered 408 ∷ []) c n.offerer (row s event))
    inside talks waits =
        let o = offer_came (office s) timed_scenes place c n at_place.there at_place.stands waits in
        let description = (call_row c.call inputs.TimedOut s.calls.pool e.now).description in
        let reached = there timed_scenes inputs.TimedOut signals.TimedOut refl timed_comes talks in
        let across = reached (other n.offerer) in
        let own = reached n.offerer in (
          o.0,
          o.1,
          record {
            across = across.dialog;
            own = own.dialog;
            with_other = across.own;
            with_own = own.own;
            sends = timed_sends _ n.stage refl
                (inside_times_out (scene_at (office s) e w c description) (asker_for c o.0) (asker_there (office s) e w c description o.0 refl o.1) c n.offerer across own n.stage talks waits);
          },
        )
