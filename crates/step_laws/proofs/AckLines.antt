-- The lines of a call whose 200 waits for its ACK: what they send.
use Rattle.std.proofs.Common.{◌≡◌, ℕ, true, false, [], ◌∷◌, Option, Some, None, refl}
use Rattle.std.specs.Option.{option_copied}
use Rattle.std.proofs.lemmas.Bool.{false≢true}
use Rattle.events.specs.declared.sent.Sent.{Sent}
use Rattle.call_media.specs.Ends.{is_same, other}
use Rattle.call_media.specs.declared.end.End.{End}
use Rattle.call_core.specs.Answered.{answered_row}
use Rattle.call_core.specs.Calls.{has_session}
use Rattle.call_core.specs.Ending.{ending_row}
use Rattle.call_core.specs.Rows.{twice_to_t2}
use Rattle.call_core.specs.Table.{row_in}
use Rattle.call_core.specs.declared.action.Action.TheVariants.{AnswerAgain, Set, Stop}
use Rattle.call_core.specs.declared.action.CallTimer.TheVariants as timers
use Rattle.call_core.specs.declared.signal.Signal.TheVariants as signals
use Rattle.call_core.specs.declared.stage.Stage.{Stage}
use Rattle.call_core.specs.declared.stage.Stage.TheVariants as stages
use Rattle.call_messages.specs.declared.scene.Asker.{Asker}
use Rattle.call_messages.specs.declared.scene.Scene.{Scene}
use Rattle.calls.specs.Finding.{awaits_ack}
use Rattle.calls.specs.declared.standing_call.StandingCall.{StandingCall}
use Rattle.message_laws.specs.CalleeDialogs.{is_unanswered}
use Rattle.media_laws.specs.Lines.{actions_in}
use Rattle.media_laws.proofs.OfferPairs.Taking.{sets_none, stops_none}
use Rattle.step_laws.specs.Acks.{answer_again}
use Rattle.step_laws.specs.Leaving.{bye}
use Rattle.step_laws.specs.Sending.{responds}
use Rattle.step_laws.proofs.Byes.{same_itself}
use Rattle.step_laws.proofs.StepSends.{Reaches}
use Rattle.step_laws.proofs.Telling.{Tells, tells_first, tells_nothing, then_again, then_bye, then_none_again, then_okay, then_silent}

-- such a call was answered
pub acked_answered : (stage : Stage) → awaits_ack stage ≡ true → is_unanswered stage ≡ false
acked_answered (stages.Asked rung) h = absurd (false≢true h)
acked_answered (stages.Cancelling sent) h = absurd (false≢true h)
acked_answered (stages.Answered interval) h = refl
acked_answered stages.Settled h = absurd (false≢true h)
acked_answered (stages.Reasked rung cancelled) h = absurd (false≢true h)
acked_answered (stages.Reanswered interval) h = refl
acked_answered stages.Updating h = absurd (false≢true h)
acked_answered (stages.Ending interval) h = refl

module _ (s : Scene) where
  -- ---- the ACK comes

  pub ack_settles : (stage : Stage) (x : End) → awaits_ack stage ≡ true → has_session stage ≡ true → Tells s (actions_in (row_in stage x signals.Ack)) []
  unfolding answered_row
  ack_settles (stages.Asked rung) x waits talks = absurd (false≢true waits)
  ack_settles (stages.Cancelling sent) x waits talks = absurd (false≢true waits)
  ack_settles (stages.Answered interval) x waits talks =
      then_silent s (Stop timers.Repeat) (λ tokens. stops_none s tokens timers.Repeat) (then_silent s (Stop timers.Wait) (λ tokens. stops_none s tokens timers.Wait) (tells_nothing s))
  ack_settles stages.Settled x waits talks = absurd (false≢true waits)
  ack_settles (stages.Reasked rung cancelled) x waits talks = absurd (false≢true waits)
  ack_settles (stages.Reanswered interval) x waits talks =
      then_silent s (Stop timers.Repeat) (λ tokens. stops_none s tokens timers.Repeat) (then_silent s (Stop timers.Wait) (λ tokens. stops_none s tokens timers.Wait) (tells_nothing s))
  ack_settles stages.Updating x waits talks = absurd (false≢true waits)
  ack_settles (stages.Ending interval) x waits talks = absurd (false≢true talks)

  module _ (c : StandingCall) (x : End) (own : Reaches c s x) where
    pub ack_leaves : (interval : ℕ) → Tells s (actions_in (row_in (stages.Ending interval) x signals.Ack)) (bye own.dialog ∷ [])
    unfolding ending_row
    ack_leaves interval = then_bye s x own.dialog own.has own.leads own.numbered (tells_nothing s)

    -- ---- none comes

    pub wait_leaves : (interval : ℕ) → Tells s (actions_in (row_in (stages.Ending interval) x signals.Wait)) (bye own.dialog ∷ [])
    unfolding ending_row
    wait_leaves interval = then_bye s x own.dialog own.has own.leads own.numbered (tells_nothing s)

    pub wait_ends : (across : Reaches c s (other x)) (stage : Stage) → awaits_ack stage ≡ true → has_session stage ≡ true → Tells s (actions_in (row_in stage x signals.Wait)) (bye own.dialog ∷ bye across.dialog ∷ [])
    unfolding answered_row
    wait_ends across (stages.Asked rung) waits talks = absurd (false≢true waits)
    wait_ends across (stages.Cancelling sent) waits talks = absurd (false≢true waits)
    wait_ends across (stages.Answered interval) waits talks =
        then_bye s x own.dialog own.has own.leads own.numbered (then_bye s (other x) across.dialog across.has across.leads across.numbered (tells_nothing s))
    wait_ends across stages.Settled waits talks = absurd (false≢true waits)
    wait_ends across (stages.Reasked rung cancelled) waits talks = absurd (false≢true waits)
    wait_ends across (stages.Reanswered interval) waits talks =
        then_bye s x own.dialog own.has own.leads own.numbered (then_bye s (other x) across.dialog across.has across.leads across.numbered (tells_nothing s))
    wait_ends across stages.Updating waits talks = absurd (false≢true waits)
    wait_ends across (stages.Ending interval) waits talks = absurd (false≢true talks)

  -- ---- the 200 is sent again

  then_answer_again : (o : Option Sent) → option_copied s.again ≡ o → (end : End) (after : ℕ) → Tells s (AnswerAgain end ∷ Set timers.Repeat after ∷ []) (answer_again o)
  then_answer_again None has end after = then_none_again s end has (then_silent s (Set timers.Repeat after) (λ tokens. sets_none s tokens timers.Repeat after) (tells_nothing s))
  then_answer_again (Some x) has end after = then_again s end x has (then_silent s (Set timers.Repeat after) (λ tokens. sets_none s tokens timers.Repeat after) (tells_nothing s))

  pub repeat_goes : (o : Option Sent) → option_copied s.again ≡ o → (stage : Stage) (x : End) → awaits_ack stage ≡ true → Tells s (actions_in (row_in stage x signals.Repeat)) (answer_again o)
  unfolding answered_row ending_row
  repeat_goes o has (stages.Asked rung) x waits = absurd (false≢true waits)
  repeat_goes o has (stages.Cancelling sent) x waits = absurd (false≢true waits)
  repeat_goes o has (stages.Answered interval) x waits = then_answer_again o has x (twice_to_t2 interval)
  repeat_goes o has stages.Settled x waits = absurd (false≢true waits)
  repeat_goes o has (stages.Reasked rung cancelled) x waits = absurd (false≢true waits)
  repeat_goes o has (stages.Reanswered interval) x waits = then_answer_again o has x (twice_to_t2 interval)
  repeat_goes o has stages.Updating x waits = absurd (false≢true waits)
  repeat_goes o has (stages.Ending interval) x waits = then_answer_again o has x (twice_to_t2 interval)

  -- ---- the offerer leaves too

  pub bye_ends : (a : Asker) → s.request ≡ Some a → (interval : ℕ) (x : End) → Tells s (actions_in (row_in (stages.Ending interval) x (signals.Bye x))) (responds a.parts.now a.source 200 ∷ [])
  unfolding ending_row
  bye_ends a has interval x = tells_first s (is_same x x) _ _ (same_itself x) (then_okay s a x has (tells_nothing s))
