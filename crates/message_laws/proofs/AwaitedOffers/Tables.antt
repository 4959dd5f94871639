-- What the lines of a call's table do to an offer that waits, and to the one that the call keeps.
use Rattle.std.proofs.Common.{◌≡◌, ◌∙◌, ℕ, ◌==◌, Bool, true, false, cond, ◌||◌, List, [], ◌∷◌, ◌++◌, Option, Some, None, refl, sym, subst, inl, inr}
use Rattle.std.specs.Prelude.{◌⊎◌}
use Rattle.std.specs.List.{list_any}
use Rattle.std.proofs.lemmas.Bool.{false≢true}
use Rattle.std.proofs.lemmas.Option.{none-some, same_Some}
use Rattle.sdp.specs.declared.description.Description.{Description}
use Rattle.port_pool.specs.Pool as pools
use Rattle.call_media.specs.declared.end.End.{End}
use Rattle.call_media.specs.declared.session.OpenOffer.{OpenOffer}
use Rattle.call_media.specs.Ends.{is_same, other}
use Rattle.call_core.specs.declared.action.Action.{Action}
use Rattle.call_core.specs.declared.action.Action.TheVariants.{Offer, Provisional, Refusal, Okay, Cancel, Bye, Release, RemoveRows, Set, Stop}
use Rattle.call_core.specs.declared.action.CallTimer.TheVariants as timers
use Rattle.call_core.specs.declared.call.Call.{Call}
use Rattle.call_core.specs.declared.input.Input.{Input}
use Rattle.call_core.specs.declared.input.Input.TheVariants as inputs
use Rattle.call_core.specs.declared.row.Row.{Row}
use Rattle.call_core.specs.declared.signal.Signal.{Signal}
use Rattle.call_core.specs.declared.signal.Signal.TheVariants as signals
use Rattle.call_core.specs.declared.stage.Cancelled.{Cancelled}
use Rattle.call_core.specs.declared.stage.Cancelled.TheVariants.{Never, Waits, PassedOn}
use Rattle.call_core.specs.declared.stage.Stage.{Stage}
use Rattle.call_core.specs.declared.stage.Stage.TheVariants as stages
use Rattle.call_core.specs.declared.stage.Standing.{Standing}
use Rattle.call_core.specs.Answered.{answered_row, waiting}
use Rattle.call_core.specs.Asked.{asked_row, given_up, rings}
use Rattle.call_core.specs.Cancelling.{cancelling_row}
use Rattle.call_core.specs.CallRows.{unchanged, answer_at, answer_step, at_line, call_row, end_step, fit_at, is_fit, kept_step, release_step, signal_at, signal_step, step_at, step_in}
use Rattle.call_core.specs.Ending.{ending_row}
use Rattle.call_core.specs.Passing.{status_passed_on}
use Rattle.call_core.specs.Plans.{Step, ends_media, releases}
use Rattle.call_core.specs.Reasked.{cancelled_inside, has_lost_the_call, reasked_row, refused_inside, rings_inside}
use Rattle.call_core.specs.Rows.{gone, ringing_time, row, short_time, twice_to_t2}
use Rattle.call_core.specs.Settled.{settled_row}
use Rattle.call_core.specs.Table.{row_in, row_of}
use Rattle.call_core.specs.Updating.{fails, update_refused, updating_row}
use Rattle.call_rules.specs.Responses.{awaits_final}
use Rattle.message_laws.specs.Carried.{awaits_callee}

abbrev pub is_offer : Action → Bool
is_offer (Offer end method) = true
is_offer action = false

abbrev pub has_offer : List Action → Bool
has_offer actions = list_any is_offer actions

-- a final response, or the end of its time
abbrev pub consumes : Signal → Bool
consumes signals.FitAnswer = true
consumes signals.UnfitAnswer = true
consumes (signals.Refusal status) = true
consumes signals.TimedOut = true
consumes signal = false

abbrev pub IsNoOffer : Signal → Type 0
IsNoOffer (signals.Offer end method) = ⊥
IsNoOffer signal = Unit {0}

-- the call is gone, or waits still for a final response, to the same end's offer
abbrev pub WaitsOn : Standing → Option Standing → Type 0
WaitsOn s None = Unit {0}
WaitsOn s (Some n) = (awaits_final n.stage ≡ true) × (n.offerer ≡ s.offerer)

-- nothing final came, and the call waited before for a final response to the same end's offer
pub record WaitedBefore (s : Standing) (final : Bool) (n : Standing) : Type 0 where
  pub calm : final ≡ false
  pub awaits : awaits_final s.stage ≡ true
  pub offerer : n.offerer ≡ s.offerer
  pub asked : awaits_callee n.stage ≡ true → awaits_callee s.stage ≡ true

abbrev pub ComesFrom : Standing → Bool → Option Standing → Type 0
ComesFrom s final None = Unit {0}
ComesFrom s final (Some n) = awaits_final n.stage ≡ true → WaitedBefore s final n

pub record LineFits (s : Standing) (signal : Signal) (line : Row) : Type 0 where
  pub none_offered : has_offer line.actions ≡ false
  pub waits_on : consumes signal ≡ false → awaits_final s.stage ≡ true → WaitsOn s line.next
  pub comes : ComesFrom s (consumes signal) line.next

-- a final response has a line wherever the call waits for it
abbrev pub LineFitsIf : Standing → Signal → Option Row → Type 0
LineFitsIf s signal None = consumes signal ≡ true → awaits_final s.stage ≡ false
LineFitsIf s signal (Some line) = LineFits s signal line

abbrev standing : End → Stage → Standing
standing x stage = record { offerer = x; stage = stage }

rings_offer_by : (b : Bool) (xs ys : List Action) → has_offer xs ≡ false → has_offer ys ≡ false → has_offer (cond b xs ys) ≡ false
rings_offer_by true xs ys h k = h
rings_offer_by false xs ys h k = k

rings_offer : (rung : Bool) (limit : ℕ) (x : End) (status : ℕ) → has_offer (rings rung limit x status) ≡ false
rings_offer true limit x status = rings_offer_by (status == 100) [] (Provisional x status ∷ []) refl refl
rings_offer false limit x status = rings_offer_by (status == 100) (Set timers.Limit limit ∷ []) (Provisional x status ∷ Set timers.Limit limit ∷ []) refl refl

-- the call is gone, or waits for none
abbrev Unawaited : Option Standing → Type 0
Unawaited None = Unit {0}
Unawaited (Some n) = awaits_final n.stage ≡ false

unawaited : (s : Standing) (final : Bool) (next : Option Standing) → Unawaited next → ComesFrom s final next
unawaited s final None q = tt
unawaited s final (Some n) q = λ w. absurd (false≢true (sym q ∙ w))

-- one that consumes
taken : (s : Standing) (signal : Signal) (line : Row) → has_offer line.actions ≡ false → consumes signal ≡ true → Unawaited line.next → LineFits s signal line
taken s signal line h c q = record { none_offered = h; waits_on = λ e w. absurd (false≢true (sym e ∙ c)); comes = unawaited s (consumes signal) line.next q }

-- one that ends the call
ended : (s : Standing) (signal : Signal) (actions : List Action) → has_offer actions ≡ false → LineFits s signal (gone actions)
ended s signal actions h = record { none_offered = h; waits_on = λ e w. tt; comes = tt }

on : (s : Standing) (signal : Signal) (actions : List Action) (x : End) (stage : Stage) → has_offer actions ≡ false → awaits_final stage ≡ true → x ≡ s.offerer → consumes signal ≡ false
    → awaits_final s.stage ≡ true → (awaits_callee stage ≡ true → awaits_callee s.stage ≡ true) → LineFits s signal (row actions x stage)
on s signal actions x stage h w o c v a = record {
  none_offered = h;
  waits_on = λ e u. (w, o);
  comes = λ u. record { calm = c; awaits = v; offerer = o; asked = a };
}

-- where none waited
calm : (s : Standing) (signal : Signal) (line : Row) → has_offer line.actions ≡ false → awaits_final s.stage ≡ false → Unawaited line.next → LineFits s signal line
calm s signal line h w q = record { none_offered = h; waits_on = λ e u. absurd (false≢true (sym w ∙ u)); comes = unawaited s (consumes signal) line.next q }

either : (s : Standing) (signal : Signal) (b : Bool) (one other : Row) → LineFits s signal one → LineFits s signal other → LineFits s signal (cond b one other)
either s signal true one other h k = h
either s signal false one other h k = k

either_if : (s : Standing) (signal : Signal) (b : Bool) (one other : Option Row) → LineFitsIf s signal one → LineFitsIf s signal other → LineFitsIf s signal (cond b one other)
either_if s signal true one other h k = h
either_if s signal false one other h k = k

given_up_fits : (rung : Bool) (x : End) (signal : Signal) → consumes signal ≡ false → LineFits (standing x (stages.Asked rung)) signal (given_up rung x)
given_up_fits true x signal c = on _ signal _ x (stages.Cancelling true) refl refl refl c refl (λ e. refl)
given_up_fits false x signal c = on _ signal _ x (stages.Cancelling false) refl refl refl c refl (λ e. refl)

asked_fits : (rung : Bool) (x : End) (signal : Signal) → IsNoOffer signal → LineFitsIf (standing x (stages.Asked rung)) signal (asked_row rung x signal)
unfolding asked_row
asked_fits rung x (signals.Provisional status) n = on (standing x (stages.Asked rung)) (signals.Provisional status) (rings rung ringing_time x status) x (stages.Asked true) (rings_offer rung ringing_time x status) refl refl refl refl (λ e. refl)
asked_fits rung x signals.FitAnswer n = taken _ signals.FitAnswer _ refl refl refl
asked_fits rung x signals.UnfitAnswer n = taken _ signals.UnfitAnswer _ refl refl tt
asked_fits rung x (signals.Refusal status) n = taken _ (signals.Refusal status) _ refl refl tt
asked_fits rung x signals.TimedOut n = taken _ signals.TimedOut _ refl refl tt
asked_fits true x signals.Limit n = on _ signals.Limit _ x (stages.Cancelling true) refl refl refl refl refl (λ e. refl)
asked_fits false x signals.Limit n = λ e. absurd (false≢true e)
asked_fits rung x signals.Cancel n = given_up_fits rung x signals.Cancel refl
asked_fits rung x (signals.Bye end) n = either_if _ (signals.Bye end) (is_same end x) (Some (given_up rung x)) None (given_up_fits rung x (signals.Bye end) refl) (λ e. absurd (false≢true e))
asked_fits rung x (signals.Offer end method) n = absurd n
asked_fits rung x signals.Ack n = λ e. absurd (false≢true e)
asked_fits rung x signals.Repeat n = λ e. absurd (false≢true e)
asked_fits rung x signals.Wait n = λ e. absurd (false≢true e)
asked_fits rung x signals.Lifetime n = λ e. absurd (false≢true e)

cancelling_fits : (sent : Bool) (x : End) (signal : Signal) → IsNoOffer signal → LineFitsIf (standing x (stages.Cancelling sent)) signal (cancelling_row sent x signal)
unfolding cancelling_row
cancelling_fits false x (signals.Provisional status) n = on _ (signals.Provisional status) _ x (stages.Cancelling true) refl refl refl refl refl (λ e. e)
cancelling_fits true x (signals.Provisional status) n = on _ (signals.Provisional status) _ x (stages.Cancelling true) refl refl refl refl refl (λ e. e)
cancelling_fits true x signals.FitAnswer n = taken _ signals.FitAnswer _ refl refl tt
cancelling_fits false x signals.FitAnswer n = taken _ signals.FitAnswer _ refl refl tt
cancelling_fits true x signals.UnfitAnswer n = taken _ signals.UnfitAnswer _ refl refl tt
cancelling_fits false x signals.UnfitAnswer n = taken _ signals.UnfitAnswer _ refl refl tt
cancelling_fits true x (signals.Refusal status) n = taken _ (signals.Refusal status) _ refl refl tt
cancelling_fits false x (signals.Refusal status) n = taken _ (signals.Refusal status) _ refl refl tt
cancelling_fits true x signals.TimedOut n = taken _ signals.TimedOut _ refl refl tt
cancelling_fits false x signals.TimedOut n = taken _ signals.TimedOut _ refl refl tt
cancelling_fits true x signals.Limit n = ended _ signals.Limit _ refl
cancelling_fits false x signals.Limit n = λ e. absurd (false≢true e)
cancelling_fits true x (signals.Offer end method) n = absurd n
cancelling_fits false x (signals.Offer end method) n = absurd n
cancelling_fits true x signals.Ack n = λ e. absurd (false≢true e)
cancelling_fits false x signals.Ack n = λ e. absurd (false≢true e)
cancelling_fits true x signals.Cancel n = λ e. absurd (false≢true e)
cancelling_fits false x signals.Cancel n = λ e. absurd (false≢true e)
cancelling_fits true x (signals.Bye end) n = λ e. absurd (false≢true e)
cancelling_fits false x (signals.Bye end) n = λ e. absurd (false≢true e)
cancelling_fits true x signals.Repeat n = λ e. absurd (false≢true e)
cancelling_fits false x signals.Repeat n = λ e. absurd (false≢true e)
cancelling_fits true x signals.Wait n = λ e. absurd (false≢true e)
cancelling_fits true x signals.Lifetime n = λ e. absurd (false≢true e)
cancelling_fits false x signals.Wait n = λ e. absurd (false≢true e)
cancelling_fits false x signals.Lifetime n = λ e. absurd (false≢true e)

waiting_calm : (inside : Bool) (interval : ℕ) → awaits_final (waiting inside interval) ≡ false
waiting_calm true interval = refl
waiting_calm false interval = refl

answered_fits : (inside : Bool) (interval : ℕ) (x : End) (signal : Signal) → IsNoOffer signal → LineFitsIf (standing x (waiting inside interval)) signal (answered_row inside interval x signal)
unfolding answered_row
answered_fits inside interval x signals.Ack n = calm _ signals.Ack _ refl (waiting_calm inside interval) refl
answered_fits inside interval x signals.Repeat n = calm _ signals.Repeat _ refl (waiting_calm inside interval) (waiting_calm inside (twice_to_t2 interval))
answered_fits inside interval x signals.Wait n = calm _ signals.Wait _ refl (waiting_calm inside interval) tt
answered_fits inside interval x signals.Lifetime n = calm _ signals.Lifetime _ refl (waiting_calm inside interval) (waiting_calm inside interval)
answered_fits inside interval x (signals.Bye end) n =
    either_if (standing x (waiting inside interval)) (signals.Bye end) (is_same end x) (Some (gone (Okay x ∷ Bye (other x) ∷ []))) (Some (row (Okay (other x) ∷ RemoveRows ∷ []) x (stages.Ending interval)))
    (ended _ (signals.Bye end) _ refl) (calm _ (signals.Bye end) _ refl (waiting_calm inside interval) refl)
answered_fits inside interval x (signals.Offer end method) n = absurd n
answered_fits inside interval x (signals.Provisional status) n = λ e. absurd (false≢true e)
answered_fits inside interval x signals.FitAnswer n = λ e. waiting_calm inside interval
answered_fits inside interval x signals.UnfitAnswer n = λ e. waiting_calm inside interval
answered_fits inside interval x (signals.Refusal status) n = λ e. waiting_calm inside interval
answered_fits inside interval x signals.TimedOut n = λ e. waiting_calm inside interval
answered_fits inside interval x signals.Cancel n = λ e. absurd (false≢true e)
answered_fits inside interval x signals.Limit n = λ e. absurd (false≢true e)

settled_fits : (x : End) (signal : Signal) → IsNoOffer signal → LineFitsIf (standing x stages.Settled) signal (settled_row signal)
unfolding settled_row
settled_fits x (signals.Bye end) n = ended _ (signals.Bye end) _ refl
settled_fits x (signals.Offer end method) n = absurd n
settled_fits x (signals.Provisional status) n = λ e. absurd (false≢true e)
settled_fits x signals.FitAnswer n = λ e. refl
settled_fits x signals.UnfitAnswer n = λ e. refl
settled_fits x (signals.Refusal status) n = λ e. refl
settled_fits x signals.TimedOut n = λ e. refl
settled_fits x signals.Ack n = λ e. absurd (false≢true e)
settled_fits x signals.Cancel n = λ e. absurd (false≢true e)
settled_fits x signals.Limit n = λ e. absurd (false≢true e)
settled_fits x signals.Repeat n = λ e. absurd (false≢true e)
settled_fits x signals.Wait n = λ e. absurd (false≢true e)
settled_fits x signals.Lifetime n = ended _ signals.Lifetime _ refl

joined_offer : (xs ys : List Action) → has_offer xs ≡ false → has_offer ys ≡ false → has_offer (xs ++ ys) ≡ false
joined_offer [] ys h k = k
joined_offer (x ∷ xs) ys h k = or_false (is_offer x) (has_offer xs) (has_offer (xs ++ ys)) h (λ e. joined_offer xs ys e k)
  where
    or_false : (a b c : Bool) → (a || b) ≡ false → (b ≡ false → c ≡ false) → (a || c) ≡ false
    or_false true b c h f = h
    or_false false b c h f = f h

rings_inside_fits : (rung : Bool) (cancelled : Cancelled) (x : End) (status : ℕ) → LineFits (standing x (stages.Reasked rung cancelled)) (signals.Provisional status) (rings_inside rung cancelled x status)
rings_inside_fits rung Never x status = on _ (signals.Provisional status) (rings rung short_time x status) x (stages.Reasked true Never) (rings_offer rung short_time x status) refl refl refl refl (λ e. e)
rings_inside_fits rung Waits x status =
    on _ (signals.Provisional status) (rings true short_time x status ++ Cancel (other x) ∷ Set timers.Limit short_time ∷ []) x (stages.Reasked true PassedOn)
    (joined_offer (rings true short_time x status) (Cancel (other x) ∷ Set timers.Limit short_time ∷ []) (rings_offer true short_time x status) refl) refl refl refl refl (λ e. e)
rings_inside_fits rung PassedOn x status = on _ (signals.Provisional status) (rings rung short_time x status) x (stages.Reasked true PassedOn) (rings_offer rung short_time x status) refl refl refl refl (λ e. e)

cancelled_fits : (rung : Bool) (cancelled : Cancelled) (x : End) → LineFits (standing x (stages.Reasked rung cancelled)) signals.Cancel (cancelled_inside rung cancelled x)
cancelled_fits true Never x = on _ signals.Cancel _ x (stages.Reasked true PassedOn) refl refl refl refl refl (λ e. e)
cancelled_fits false Never x = on _ signals.Cancel _ x (stages.Reasked false Waits) refl refl refl refl refl (λ e. e)
cancelled_fits rung Waits x = on _ signals.Cancel _ x (stages.Reasked rung Waits) refl refl refl refl refl (λ e. e)
cancelled_fits rung PassedOn x = on _ signals.Cancel _ x (stages.Reasked rung PassedOn) refl refl refl refl refl (λ e. e)

refused_fits : (s : Standing) (x : End) (status : ℕ) → LineFits s (signals.Refusal status) (refused_inside x status)
refused_fits s x status =
    either s (signals.Refusal status) (has_lost_the_call status) (gone (Refusal x status ∷ Bye (other x) ∷ Bye x ∷ []))
    (row (Refusal x (status_passed_on status) ∷ Release ∷ Stop timers.Limit ∷ []) x stages.Settled) (ended s (signals.Refusal status) _ refl) (taken s (signals.Refusal status) _ refl refl refl)

reasked_fits : (rung : Bool) (cancelled : Cancelled) (x : End) (signal : Signal) → IsNoOffer signal → LineFitsIf (standing x (stages.Reasked rung cancelled)) signal (reasked_row rung cancelled x signal)
unfolding reasked_row
reasked_fits rung cancelled x (signals.Provisional status) n = rings_inside_fits rung cancelled x status
reasked_fits rung cancelled x signals.FitAnswer n = taken _ signals.FitAnswer _ refl refl refl
reasked_fits rung cancelled x signals.UnfitAnswer n = taken _ signals.UnfitAnswer _ refl refl tt
reasked_fits rung cancelled x (signals.Refusal status) n = refused_fits _ x status
reasked_fits rung cancelled x signals.TimedOut n = taken _ signals.TimedOut _ refl refl tt
reasked_fits true cancelled x signals.Limit n = ended _ signals.Limit _ refl
reasked_fits false cancelled x signals.Limit n = λ e. absurd (false≢true e)
reasked_fits rung cancelled x signals.Cancel n = cancelled_fits rung cancelled x
reasked_fits rung cancelled x (signals.Bye end) n = ended _ (signals.Bye end) _ refl
reasked_fits rung cancelled x (signals.Offer end method) n = absurd n
reasked_fits rung cancelled x signals.Ack n = λ e. absurd (false≢true e)
reasked_fits rung cancelled x signals.Repeat n = λ e. absurd (false≢true e)
reasked_fits rung cancelled x signals.Wait n = λ e. absurd (false≢true e)
reasked_fits rung cancelled x signals.Lifetime n = on _ signals.Lifetime _ x (stages.Reasked rung cancelled) refl refl refl refl refl (λ e. e)

update_fits : (s : Standing) (x : End) (status : ℕ) → LineFits s (signals.Refusal status) (update_refused x status)
update_fits s x status =
    either s (signals.Refusal status) (has_lost_the_call status) (fails x status) (row (Refusal x (status_passed_on status) ∷ Release ∷ []) x stages.Settled)
    (ended s (signals.Refusal status) _ refl) (taken s (signals.Refusal status) _ refl refl refl)

updating_fits : (x : End) (signal : Signal) → IsNoOffer signal → LineFitsIf (standing x stages.Updating) signal (updating_row x signal)
unfolding updating_row
updating_fits x signals.FitAnswer n = taken _ signals.FitAnswer _ refl refl refl
updating_fits x signals.UnfitAnswer n = taken _ signals.UnfitAnswer _ refl refl tt
updating_fits x (signals.Refusal status) n = update_fits _ x status
updating_fits x signals.TimedOut n = taken _ signals.TimedOut _ refl refl tt
updating_fits x (signals.Bye end) n = ended _ (signals.Bye end) _ refl
updating_fits x (signals.Offer end method) n = absurd n
updating_fits x (signals.Provisional status) n = λ e. absurd (false≢true e)
updating_fits x signals.Ack n = λ e. absurd (false≢true e)
updating_fits x signals.Cancel n = λ e. absurd (false≢true e)
updating_fits x signals.Limit n = λ e. absurd (false≢true e)
updating_fits x signals.Repeat n = λ e. absurd (false≢true e)
updating_fits x signals.Wait n = λ e. absurd (false≢true e)
updating_fits x signals.Lifetime n = on _ signals.Lifetime _ x stages.Updating refl refl refl refl refl (λ e. e)

ending_fits : (interval : ℕ) (x : End) (signal : Signal) → IsNoOffer signal → LineFitsIf (standing x (stages.Ending interval)) signal (ending_row interval x signal)
unfolding ending_row
ending_fits interval x signals.Ack n = ended _ signals.Ack _ refl
ending_fits interval x signals.Wait n = ended _ signals.Wait _ refl
ending_fits interval x signals.Lifetime n = λ e. absurd (false≢true e)
ending_fits interval x signals.Repeat n = calm _ signals.Repeat _ refl refl refl
ending_fits interval x (signals.Bye end) n = either_if (standing x (stages.Ending interval)) (signals.Bye end) (is_same end x) (Some (gone (Okay x ∷ []))) None (ended _ (signals.Bye end) _ refl) (λ e. absurd (false≢true e))
ending_fits interval x (signals.Offer end method) n = absurd n
ending_fits interval x (signals.Provisional status) n = λ e. absurd (false≢true e)
ending_fits interval x signals.FitAnswer n = λ e. refl
ending_fits interval x signals.UnfitAnswer n = λ e. refl
ending_fits interval x (signals.Refusal status) n = λ e. refl
ending_fits interval x signals.TimedOut n = λ e. refl
ending_fits interval x signals.Cancel n = λ e. absurd (false≢true e)
ending_fits interval x signals.Limit n = λ e. absurd (false≢true e)

line_in : (x : End) (stage : Stage) (signal : Signal) → IsNoOffer signal → LineFitsIf (standing x stage) signal (row_in stage x signal)
line_in x (stages.Asked rung) signal n = asked_fits rung x signal n
line_in x (stages.Cancelling sent) signal n = cancelling_fits sent x signal n
line_in x (stages.Answered interval) signal n = answered_fits false interval x signal n
line_in x stages.Settled signal n = settled_fits x signal n
line_in x (stages.Reasked rung cancelled) signal n = reasked_fits rung cancelled x signal n
line_in x (stages.Reanswered interval) signal n = answered_fits true interval x signal n
line_in x stages.Updating signal n = updating_fits x signal n
line_in x (stages.Ending interval) signal n = ending_fits interval x signal n

pub line_fits : (s : Standing) (signal : Signal) → IsNoOffer signal → LineFitsIf s signal (row_of s signal)
unfolding row_of
line_fits s signal n = line_in s.offerer s.stage signal n

-- ---- a step

abbrev pub consumes_input : Input → Bool
consumes_input (inputs.Answer answer) = true
consumes_input (inputs.Refusal status) = true
consumes_input inputs.TimedOut = true
consumes_input input = false

abbrev pub IsNoOfferInput : Input → Type 0
IsNoOfferInput (inputs.Offer x method offer) = ⊥
IsNoOfferInput input = Unit {0}

-- the offer that was open is still open, or none is
abbrev pub KeepsOffer : Call → Call → Type 0
KeepsOffer c d = (d.media.offer ≡ None) ⊎ (d.media.offer ≡ c.media.offer)

-- no offer goes out, the dialogs stay, and where nothing final came, the call waits on as it did
pub record StepFits (c : Call) (s : Standing) (final : Bool) (step : Step) : Type 0 where
  pub none_offered : has_offer step.actions ≡ false
  pub caller : step.call.caller ≡ c.caller
  pub callee : step.call.callee ≡ c.callee
  pub waits_on : final ≡ false → awaits_final s.stage ≡ true → WaitsOn s step.call.standing
  pub comes : ComesFrom s final step.call.standing
  pub offer : KeepsOffer c step.call

by_either : {X : Type 0} (P : X → Type 0) (b : Bool) (x y : X) → P x → P y → P (cond b x y)
by_either P true x y p q = p
by_either P false x y p q = q

signal_step_fits : (c : Call) (s : Standing) (signal : Signal) (pool : pools.Contents) (now : ℕ) (line : Row) → LineFits s signal line → StepFits c s (consumes signal) (signal_step c pool now line)
signal_step_fits c s signal pool now line fits =
    let P : Step → Type 0 = StepFits c s (consumes signal) in
    by_either P (ends_media line) (end_step c pool now line) (cond (releases line) (release_step c pool now line) (kept_step c pool line))
    (record { none_offered = fits.none_offered; caller = refl; callee = refl; waits_on = fits.waits_on; comes = fits.comes; offer = inl refl })
    (by_either P (releases line) (release_step c pool now line) (kept_step c pool line)
    (record { none_offered = fits.none_offered; caller = refl; callee = refl; waits_on = fits.waits_on; comes = fits.comes; offer = inl refl })
    (record { none_offered = fits.none_offered; caller = refl; callee = refl; waits_on = fits.waits_on; comes = fits.comes; offer = inr refl }))

-- nothing is done
unmoved : (final x : Bool) → (final ≡ true → x ≡ false) → x ≡ true → final ≡ false
unmoved true x h w = absurd (false≢true (sym (h refl) ∙ w))
unmoved false x h w = refl

idle_fits : (c : Call) (s : Standing) (final : Bool) (pool : pools.Contents) → c.standing ≡ Some s → (final ≡ true → awaits_final s.stage ≡ false) → StepFits c s final (unchanged c pool)
idle_fits c s final pool stands h = record {
  none_offered = refl;
  caller = refl;
  callee = refl;
  waits_on = λ e w. rw stands (w, refl);
  comes = subst (ComesFrom s final) (sym stands) (λ w. record { calm = unmoved final (awaits_final s.stage) h w; awaits = w; offerer = refl; asked = λ e. e });
  offer = inr refl;
}

at_line_fits : (c : Call) (s : Standing) (signal : Signal) (pool : pools.Contents) (now : ℕ) (line : Option Row) → c.standing ≡ Some s → LineFitsIf s signal line
    → StepFits c s (consumes signal) (at_line c pool (signal_step c pool now) line)
at_line_fits c s signal pool now None stands fits = idle_fits c s (consumes signal) pool stands fits
at_line_fits c s signal pool now (Some line) stands fits = signal_step_fits c s signal pool now line fits

signal_fits : (c : Call) (s : Standing) (signal : Signal) (pool : pools.Contents) (now : ℕ) → c.standing ≡ Some s → IsNoOffer signal → StepFits c s (consumes signal) (signal_at c s signal pool now)
signal_fits c s signal pool now stands n = at_line_fits c s signal pool now (row_of s signal) stands (line_fits s signal n)

answer_line_fits : (c : Call) (s : Standing) (o : OpenOffer) (answer : Description) (pool : pools.Contents) (now : ℕ) (line : Option Row) → c.standing ≡ Some s → LineFitsIf s signals.FitAnswer line
    → StepFits c s true (at_line c pool (answer_step c pool now o answer) line)
answer_line_fits c s o answer pool now None stands fits = idle_fits c s true pool stands fits
answer_line_fits c s o answer pool now (Some line) stands fits =
    record { none_offered = fits.none_offered; caller = refl; callee = refl; waits_on = λ e w. absurd (false≢true (sym e)); comes = fits.comes; offer = inl refl }

fit_fits : (c : Call) (s : Standing) (waiting : Option OpenOffer) (answer : Option Description) (pool : pools.Contents) (now : ℕ) → c.standing ≡ Some s → is_fit c waiting answer ≡ true
    → StepFits c s true (fit_at c s waiting answer pool now)
fit_fits c s None answer pool now stands fit = absurd (false≢true fit)
fit_fits c s (Some o) None pool now stands fit = absurd (false≢true fit)
fit_fits c s (Some o) (Some answer) pool now stands fit = answer_line_fits c s o answer pool now (row_of s signals.FitAnswer) stands (line_fits s signals.FitAnswer tt)

answer_by : (c : Call) (s : Standing) (answer : Option Description) (pool : pools.Contents) (now : ℕ) (b : Bool) → c.standing ≡ Some s → is_fit c c.media.offer answer ≡ b
    → StepFits c s true (cond b (fit_at c s c.media.offer answer pool now) (signal_at c s signals.UnfitAnswer pool now))
answer_by c s answer pool now true stands fit = fit_fits c s c.media.offer answer pool now stands fit
answer_by c s answer pool now false stands fit = signal_fits c s signals.UnfitAnswer pool now stands tt

answer_fits : (c : Call) (s : Standing) (answer : Option Description) (pool : pools.Contents) (now : ℕ) → c.standing ≡ Some s → StepFits c s true (answer_at c s answer pool now)
answer_fits c s answer pool now stands = answer_by c s answer pool now (is_fit c c.media.offer answer) stands refl

step_fits : (c : Call) (s : Standing) (input : Input) (pool : pools.Contents) (now : ℕ) → c.standing ≡ Some s → IsNoOfferInput input → StepFits c s (consumes_input input) (step_at c s input pool now)
step_fits c s (inputs.Offer x method offer) pool now stands n = absurd n
step_fits c s (inputs.Provisional status) pool now stands n = signal_fits c s (signals.Provisional status) pool now stands tt
step_fits c s (inputs.Answer answer) pool now stands n = answer_fits c s answer pool now stands
step_fits c s (inputs.Refusal status) pool now stands n = signal_fits c s (signals.Refusal status) pool now stands tt
step_fits c s inputs.TimedOut pool now stands n = signal_fits c s signals.TimedOut pool now stands tt
step_fits c s inputs.Ack pool now stands n = signal_fits c s signals.Ack pool now stands tt
step_fits c s inputs.Cancel pool now stands n = signal_fits c s signals.Cancel pool now stands tt
step_fits c s (inputs.Bye end) pool now stands n = signal_fits c s (signals.Bye end) pool now stands tt
step_fits c s inputs.Limit pool now stands n = signal_fits c s signals.Limit pool now stands tt
step_fits c s inputs.Repeat pool now stands n = signal_fits c s signals.Repeat pool now stands tt
step_fits c s inputs.Wait pool now stands n = signal_fits c s signals.Wait pool now stands tt
step_fits c s inputs.Lifetime pool now stands n = signal_fits c s signals.Lifetime pool now stands tt

-- of a call, whatever its standing
pub record TakesFits (c : Call) (final : Bool) (step : Step) : Type 0 where
  pub none_offered : has_offer step.actions ≡ false
  pub caller : step.call.caller ≡ c.caller
  pub callee : step.call.callee ≡ c.callee
  pub waits_on : (s : Standing) → c.standing ≡ Some s → final ≡ false → awaits_final s.stage ≡ true → WaitsOn s step.call.standing
  pub comes : (n : Standing) → step.call.standing ≡ Some n → awaits_final n.stage ≡ true → (s : Standing) × (c.standing ≡ Some s) × WaitedBefore s final n
  pub offer : KeepsOffer c step.call

takes_fits_in : (c : Call) (standing : Option Standing) (input : Input) (pool : pools.Contents) (now : ℕ) → c.standing ≡ standing → IsNoOfferInput input
    → TakesFits c (consumes_input input) (step_in c standing input pool now)
takes_fits_in c None input pool now stands n = record { none_offered = refl; caller = refl; callee = refl; waits_on = λ s is e w. absurd (none-some s (sym stands ∙ is)); comes = λ s is w. absurd (none-some s (sym stands ∙ is)); offer = inr refl }
takes_fits_in c (Some s) input pool now stands n =
    let fits = step_fits c s input pool now stands n in
    record {
      none_offered = fits.none_offered;
      caller = fits.caller;
      callee = fits.callee;
      waits_on = λ t is. subst (λ x. consumes_input input ≡ false → awaits_final x.stage ≡ true → WaitsOn x (step_at c s input pool now).call.standing) (same_Some s t (sym stands ∙ is)) fits.waits_on;
      comes = λ n is w. (s, stands, subst (ComesFrom s (consumes_input input)) is fits.comes w);
      offer = fits.offer;
    }

pub takes_fits : (c : Call) (input : Input) (pool : pools.Contents) (now : ℕ) → IsNoOfferInput input → TakesFits c (consumes_input input) (call_row c input pool now)
unfolding call_row
takes_fits c input pool now n = takes_fits_in c c.standing input pool now refl n
