-- A BYE of an end: what the step sends, and to whom.
use Rattle.std.proofs.Common.{◌≡◌, ℕ, Bool, true, false, codes, List, [], ◌∷◌, Some, refl, sym, subst}
use Rattle.std.proofs.lemmas.Bool.{false≢true}
use Rattle.dialogs.specs.declared.state.Dialog.{Dialog}
use Rattle.call_media.specs.Ends.{is_same, other}
use Rattle.call_media.specs.declared.end.End.{End}
use Rattle.call_media.specs.declared.end.End.TheVariants.{Caller, Callee}
use Rattle.call_core.specs.Answered.{answered_row}
use Rattle.call_core.specs.Calls.{awaits_answer, has_session}
use Rattle.call_core.specs.Reasked.{reasked_row}
use Rattle.call_core.specs.Settled.{settled_row}
use Rattle.call_core.specs.Table.{row_in}
use Rattle.call_core.specs.Updating.{updating_row}
use Rattle.call_core.specs.declared.action.Action.TheVariants.{Abandon, Bye, Okay, RemoveRows}
use Rattle.call_core.specs.declared.signal.Signal.TheVariants as signals
use Rattle.call_core.specs.declared.stage.Stage.{Stage}
use Rattle.call_core.specs.declared.stage.Stage.TheVariants as stages
use Rattle.call_messages.specs.declared.scene.Asker.{Asker}
use Rattle.call_messages.specs.declared.scene.Scene.{Scene}
use Rattle.calls.specs.Finding.{awaits_ack}
use Rattle.calls.specs.declared.standing_call.StandingCall.{StandingCall}
use Rattle.media_laws.specs.Lines.{actions_in}
use Rattle.media_laws.proofs.OfferPairs.Taking.{abandons_none, removes_none}
use Rattle.step_laws.specs.Sending.{Going, asks, responds}
use Rattle.step_laws.proofs.StepSends.{Reaches}
use Rattle.step_laws.proofs.Telling.{Tells, tells_first, tells_nothing, tells_other, then_bye, then_okay, then_refusal, then_silent}

-- ---- the lines

pub same_itself : (x : End) → is_same x x ≡ true
same_itself Caller = refl
same_itself Callee = refl

pub other_twice : (x : End) → is_same (other x) x ≡ false
other_twice Caller = refl
other_twice Callee = refl

module _ (s : Scene) (a : Asker) (has : s.request ≡ Some a) where
  abbrev two : Dialog → List Going
  two d = responds a.parts.now a.source 200 ∷ asks d (codes "BYE") ∷ []

  abbrev one : List Going
  one = responds a.parts.now a.source 200 ∷ []

  module _ (c : StandingCall) (end : End) (to : Reaches c s (other end)) where
    passes : Tells s (Okay end ∷ Bye (other end) ∷ []) (two to.dialog)
    passes = then_okay s a end has (then_bye s (other end) to.dialog to.has to.leads to.numbered (tells_nothing s))

    -- the end whose offer was answered last
    answered_passes : (inside : Bool) (interval : ℕ) (x : End) → end ≡ x → Tells s (actions_in (answered_row inside interval x (signals.Bye end))) (two to.dialog)
    unfolding answered_row
    answered_passes inside interval x is =
        subst (λ y. Tells s (actions_in (answered_row inside interval y (signals.Bye end))) (two to.dialog)) is
        (tells_first s (is_same end end) _ _ (same_itself end) passes)

    pub settled_passes : (stage : Stage) (x : End) → has_session stage ≡ true → awaits_answer stage ≡ false → (awaits_ack stage ≡ true → end ≡ x) → Tells s (actions_in (row_in stage x (signals.Bye end))) (two to.dialog)
    unfolding settled_row
    settled_passes (stages.Asked rung) x talks quiet acked = absurd (false≢true talks)
    settled_passes (stages.Cancelling sent) x talks quiet acked = absurd (false≢true talks)
    settled_passes (stages.Answered interval) x talks quiet acked = answered_passes false interval x (acked refl)
    settled_passes stages.Settled x talks quiet acked = passes
    settled_passes (stages.Reasked rung cancelled) x talks quiet acked = absurd (false≢true (sym quiet))
    settled_passes (stages.Reanswered interval) x talks quiet acked = answered_passes true interval x (acked refl)
    settled_passes stages.Updating x talks quiet acked = absurd (false≢true (sym quiet))
    settled_passes (stages.Ending interval) x talks quiet acked = absurd (false≢true talks)

    module _ (o : Asker) (asked : s.offer ≡ Some o) where
      abbrev three : List Going
      three = responds a.parts.now a.source 200 ∷ responds o.parts.now o.source 487 ∷ asks to.dialog (codes "BYE") ∷ []

      pub offering_passes : (stage : Stage) (x : End) → has_session stage ≡ true → awaits_answer stage ≡ true → Tells s (actions_in (row_in stage x (signals.Bye end))) three
      unfolding reasked_row updating_row
      offering_passes (stages.Asked rung) x talks waits = absurd (false≢true talks)
      offering_passes (stages.Cancelling sent) x talks waits = absurd (false≢true talks)
      offering_passes (stages.Answered interval) x talks waits = absurd (false≢true waits)
      offering_passes stages.Settled x talks waits = absurd (false≢true waits)
      offering_passes (stages.Reasked rung cancelled) x talks waits =
          then_okay s a end has (then_refusal s o x 487 asked (then_bye s (other end) to.dialog to.has to.leads to.numbered (then_silent s (Abandon (other x)) (λ tokens. abandons_none s tokens (other x)) (tells_nothing s))))
      offering_passes (stages.Reanswered interval) x talks waits = absurd (false≢true waits)
      offering_passes stages.Updating x talks waits = then_okay s a end has (then_refusal s o x 487 asked (then_bye s (other end) to.dialog to.has to.leads to.numbered (tells_nothing s)))
      offering_passes (stages.Ending interval) x talks waits = absurd (false≢true talks)

  -- the end that answered leaves before the ACK comes
  unacknowledged : (inside : Bool) (interval : ℕ) (x : End) → Tells s (actions_in (answered_row inside interval x (signals.Bye (other x)))) one
  unfolding answered_row
  unacknowledged inside interval x =
      tells_other s (is_same (other x) x) _ _ (other_twice x) (then_okay s a (other x) has (then_silent s RemoveRows (removes_none s) (tells_nothing s)))

  pub waits_for_ack : (stage : Stage) (x : End) → has_session stage ≡ true → awaits_ack stage ≡ true → Tells s (actions_in (row_in stage x (signals.Bye (other x)))) one
  waits_for_ack (stages.Asked rung) x talks waits = absurd (false≢true talks)
  waits_for_ack (stages.Cancelling sent) x talks waits = absurd (false≢true talks)
  waits_for_ack (stages.Answered interval) x talks waits = unacknowledged false interval x
  waits_for_ack stages.Settled x talks waits = absurd (false≢true waits)
  waits_for_ack (stages.Reasked rung cancelled) x talks waits = absurd (false≢true waits)
  waits_for_ack (stages.Reanswered interval) x talks waits = unacknowledged true interval x
  waits_for_ack stages.Updating x talks waits = absurd (false≢true waits)
  waits_for_ack (stages.Ending interval) x talks waits = absurd (false≢true talks)
