-- The responses to its open offer that the lines of a call's table say: their statuses, and that a call that waits on
-- says none that is final.
use Rattle.std.proofs.Common.{◌≡◌, ◌∙◌, ℕ, ◌==◌, Bool, true, false, cond, ◌||◌, ◌&&◌, List, [], ◌∷◌, ◌++◌, nat_lt, Option, Some, None, refl, sym, subst, inl, inr, arith}
use Rattle.std.specs.Prelude.{◌⊎◌}
use Rattle.std.proofs.lemmas.Bool.{false≢true}
use Rattle.sdp.specs.declared.description.Description.{Description}
use Rattle.port_pool.specs.Pool as pools
use Rattle.call_media.specs.declared.end.End.{End}
use Rattle.call_media.specs.declared.session.OpenOffer.{OpenOffer}
use Rattle.call_media.specs.Ends.{is_same, other}
use Rattle.call_core.specs.declared.action.Action.{Action}
use Rattle.call_core.specs.declared.action.Action.TheVariants.{Answer, Bye, Cancel, Okay, Provisional, Refusal, Release, RemoveRows, Set, Stop}
use Rattle.call_core.specs.declared.action.CallTimer.TheVariants as timers
use Rattle.call_core.specs.declared.call.Call.{Call}
use Rattle.call_core.specs.declared.input.Input.{Input}
use Rattle.call_core.specs.declared.input.Input.TheVariants as inputs
use Rattle.call_core.specs.declared.row.Row.{Row}
use Rattle.call_core.specs.declared.signal.OfferMethod.TheVariants.{Invite, Update}
use Rattle.call_core.specs.declared.signal.Signal.{Signal}
use Rattle.call_core.specs.declared.signal.Signal.TheVariants as signals
use Rattle.call_core.specs.declared.stage.Cancelled.{Cancelled}
use Rattle.call_core.specs.declared.stage.Cancelled.TheVariants.{Never, PassedOn, Waits}
use Rattle.call_core.specs.declared.stage.Stage.{Stage}
use Rattle.call_core.specs.declared.stage.Stage.TheVariants as stages
use Rattle.call_core.specs.declared.stage.Standing.{Standing}
use Rattle.call_core.specs.Answered.{answered_row}
use Rattle.call_core.specs.Asked.{asked_row, given_up, rings}
use Rattle.call_core.specs.Calls.{awaits_answer, holds_in}
use Rattle.call_core.specs.Cancelling.{cancelling_row}
use Rattle.call_core.specs.CallRows.{answer_at, answer_step, at_line, call_row, end_step, fit_at, is_fit, kept_step, offer_at, offer_step, release_step, signal_at, signal_step, step_at, step_in, unchanged}
use Rattle.call_core.specs.Ending.{ending_row}
use Rattle.call_core.specs.Passing.{status_passed_on}
use Rattle.call_core.specs.Plans.{Step, ends_media, releases}
use Rattle.call_core.specs.Reasked.{cancelled_inside, has_lost_the_call, reasked_row, refused_inside, rings_inside}
use Rattle.call_core.specs.Rows.{gone, ringing_time, row, short_time}
use Rattle.call_core.specs.Settled.{settled_row}
use Rattle.call_core.specs.Table.{row_in, row_of}
use Rattle.call_core.specs.Updating.{fails, update_refused, updating_row}
use Rattle.message_laws.proofs.Askers.Speaking.{FitActions, IsEarly, IsRefused, answer_offer}

-- ---- what comes, and what is said

abbrev pub FitsSignal : Signal → Type 0
FitsSignal (signals.Provisional status) = IsEarly status
FitsSignal (signals.Refusal status) = IsRefused status
FitsSignal signal = Unit {0}

abbrev pub is_offer_signal : Signal → Bool
is_offer_signal (signals.Offer end method) = true
is_offer_signal signal = false

-- a final response to the offer
abbrev pub is_final : Action → Bool
is_final (Answer end) = true
is_final (Refusal end status) = true
is_final action = false

abbrev pub says_final : List Action → Bool
says_final [] = false
says_final (action ∷ later) = is_final action || says_final later

abbrev pub waits_in : Option Standing → Bool
waits_in standing = holds_in awaits_answer standing

-- the call waited, or takes an offer
abbrev pub Open : Standing → Bool → Type 0
Open s offer = (offer ≡ true) ⊎ (awaits_answer s.stage ≡ true)

pub record LineSpeaks (s : Standing) (offer : Bool) (actions : List Action) (next : Option Standing) : Type 0 where
  pub fit : FitActions actions
  pub answers : answer_offer actions ≡ true → Open s offer
  pub waits_on : waits_in next ≡ true → says_final actions ≡ false
  pub comes : waits_in next ≡ true → Open s offer

abbrev pub LineSpeaksIf : Standing → Signal → Option Row → Type 0
LineSpeaksIf s signal None = Unit {0}
LineSpeaksIf s signal (Some line) = LineSpeaks s (is_offer_signal signal) line.actions line.next

-- ---- kinds of lines

-- of a call that waits: one after which it goes on waiting, and one after which it does not
abbrev standing : End → Stage → Standing
standing x stage = record { offerer = x; stage = stage }

goes_on : (s : Standing) (offer : Bool) (actions : List Action) (next : Option Standing) → awaits_answer s.stage ≡ true → FitActions actions → says_final actions ≡ false → LineSpeaks s offer actions next
goes_on s offer actions next w f o = record { fit = f; answers = λ e. inr w; waits_on = λ e. o; comes = λ e. inr w }

over : (s : Standing) (offer : Bool) (actions : List Action) (next : Option Standing) → awaits_answer s.stage ≡ true → FitActions actions → waits_in next ≡ false → LineSpeaks s offer actions next
over s offer actions next w f o = record { fit = f; answers = λ e. inr w; waits_on = λ e. absurd (false≢true (sym o ∙ e)); comes = λ e. inr w }

-- of a call that does not
quiet : (s : Standing) (offer : Bool) (actions : List Action) (next : Option Standing) → FitActions actions → answer_offer actions ≡ false → waits_in next ≡ false → LineSpeaks s offer actions next
quiet s offer actions next f a o = record { fit = f; answers = λ e. absurd (false≢true (sym a ∙ e)); waits_on = λ e. absurd (false≢true (sym o ∙ e)); comes = λ e. absurd (false≢true (sym o ∙ e)) }

either : (s : Standing) (signal : Signal) (b : Bool) (one other : Row) → LineSpeaksIf s signal (Some one) → LineSpeaksIf s signal (Some other) → LineSpeaksIf s signal (Some (cond b one other))
either s signal true one other h k = h
either s signal false one other h k = k

either_if : (s : Standing) (signal : Signal) (b : Bool) (one other : Option Row) → LineSpeaksIf s signal one → LineSpeaksIf s signal other → LineSpeaksIf s signal (cond b one other)
either_if s signal true one other h k = h
either_if s signal false one other h k = k

-- ---- statuses

passed_by : (a b : Bool) (status : ℕ) → IsRefused status → IsRefused (cond a 480 (cond b 500 status))
passed_by true b status h = (omega arith, omega arith)
passed_by false true status h = (omega arith, omega arith)
passed_by false false status h = h

passed_on : (status : ℕ) → IsRefused status → IsRefused (status_passed_on status)
passed_on status h = passed_by (nat_lt 299 status && nat_lt status 400) (status == 401 || status == 407) status h

fit_by : (b : Bool) (xs ys : List Action) → FitActions xs → FitActions ys → FitActions (cond b xs ys)
fit_by true xs ys h k = h
fit_by false xs ys h k = k

rings_fit : (rung : Bool) (limit : ℕ) (x : End) (status : ℕ) → IsEarly status → FitActions (rings rung limit x status)
rings_fit true limit x status is = fit_by (status == 100) [] (Provisional x status ∷ []) tt (is, tt)
rings_fit false limit x status is = fit_by (status == 100) (Set timers.Limit limit ∷ []) (Provisional x status ∷ Set timers.Limit limit ∷ []) (tt, tt) (is, (tt, tt))

final_by : (b : Bool) (xs ys : List Action) → says_final xs ≡ false → says_final ys ≡ false → says_final (cond b xs ys) ≡ false
final_by true xs ys h k = h
final_by false xs ys h k = k

rings_open : (rung : Bool) (limit : ℕ) (x : End) (status : ℕ) → says_final (rings rung limit x status) ≡ false
rings_open true limit x status = final_by (status == 100) [] (Provisional x status ∷ []) refl refl
rings_open false limit x status = final_by (status == 100) (Set timers.Limit limit ∷ []) (Provisional x status ∷ Set timers.Limit limit ∷ []) refl refl

fit_joined : (xs ys : List Action) → FitActions xs → FitActions ys → FitActions (xs ++ ys)
fit_joined [] ys h k = k
fit_joined (x ∷ xs) ys h k = (h.0, fit_joined xs ys h.1 k)

final_joined : (xs ys : List Action) → says_final xs ≡ false → says_final ys ≡ false → says_final (xs ++ ys) ≡ false
final_joined [] ys h k = k
final_joined (x ∷ xs) ys h k = joined_by (is_final x) (says_final xs) (says_final (xs ++ ys)) h (λ e. final_joined xs ys e k)
  where
    joined_by : (a b c : Bool) → (a || b) ≡ false → (b ≡ false → c ≡ false) → (a || c) ≡ false
    joined_by true b c e more = absurd (false≢true (sym e))
    joined_by false b c e more = more e

-- ---- the lines of each stage

given_up_speaks : (rung : Bool) (x : End) (signal : Signal) → is_offer_signal signal ≡ false → LineSpeaksIf (standing x (stages.Asked rung)) signal (Some (given_up rung x))
given_up_speaks true x signal n = over _ (is_offer_signal signal) _ _ refl (tt, ((omega arith, omega arith), (tt, (tt, (tt, tt))))) refl
given_up_speaks false x signal n = over _ (is_offer_signal signal) _ _ refl (tt, ((omega arith, omega arith), (tt, tt))) refl

asked_speaks : (rung : Bool) (x : End) (signal : Signal) → FitsSignal signal → LineSpeaksIf (standing x (stages.Asked rung)) signal (asked_row rung x signal)
unfolding asked_row
asked_speaks rung x (signals.Provisional status) f = goes_on _ false (rings rung ringing_time x status) _ refl (rings_fit rung ringing_time x status f) (rings_open rung ringing_time x status)
asked_speaks rung x signals.FitAnswer f = over _ false _ _ refl (tt, (tt, (tt, (tt, (tt, (tt, tt)))))) refl
asked_speaks rung x signals.UnfitAnswer f = over _ false _ _ refl (tt, (tt, ((omega arith, omega arith), tt))) refl
asked_speaks rung x (signals.Refusal status) f = over _ false _ _ refl (passed_on status f, tt) refl
asked_speaks rung x signals.TimedOut f = over _ false _ _ refl ((omega arith, omega arith), tt) refl
asked_speaks true x signals.Limit f = over _ false _ _ refl ((omega arith, omega arith), (tt, (tt, (tt, tt)))) refl
asked_speaks false x signals.Limit f = tt
asked_speaks rung x signals.Cancel f = given_up_speaks rung x signals.Cancel refl
asked_speaks rung x (signals.Bye end) f = either_if (standing x (stages.Asked rung)) (signals.Bye end) (is_same end x) (Some (given_up rung x)) None (given_up_speaks rung x (signals.Bye end) refl) tt
asked_speaks true x (signals.Offer end method) f = tt
asked_speaks false x (signals.Offer end method) f = tt
asked_speaks true x signals.Ack f = tt
asked_speaks false x signals.Ack f = tt
asked_speaks true x signals.Repeat f = tt
asked_speaks false x signals.Repeat f = tt
asked_speaks true x signals.Wait f = tt
asked_speaks true x signals.Lifetime f = tt
asked_speaks false x signals.Wait f = tt
asked_speaks false x signals.Lifetime f = tt

cancelling_speaks : (sent : Bool) (x : End) (signal : Signal) → LineSpeaksIf (standing x (stages.Cancelling sent)) signal (cancelling_row sent x signal)
unfolding cancelling_row
cancelling_speaks false x (signals.Provisional status) = quiet _ false _ _ (tt, (tt, tt)) refl refl
cancelling_speaks true x (signals.Provisional status) = quiet _ false _ _ tt refl refl
cancelling_speaks true x signals.FitAnswer = quiet _ false _ _ (tt, (tt, tt)) refl refl
cancelling_speaks false x signals.FitAnswer = quiet _ false _ _ (tt, (tt, tt)) refl refl
cancelling_speaks true x signals.UnfitAnswer = quiet _ false _ _ (tt, (tt, tt)) refl refl
cancelling_speaks false x signals.UnfitAnswer = quiet _ false _ _ (tt, (tt, tt)) refl refl
cancelling_speaks true x (signals.Refusal status) = quiet _ false _ _ tt refl refl
cancelling_speaks false x (signals.Refusal status) = quiet _ false _ _ tt refl refl
cancelling_speaks true x signals.TimedOut = quiet _ false _ _ tt refl refl
cancelling_speaks false x signals.TimedOut = quiet _ false _ _ tt refl refl
cancelling_speaks true x signals.Limit = quiet _ false _ _ (tt, tt) refl refl
cancelling_speaks false x signals.Limit = tt
cancelling_speaks true x signals.Cancel = tt
cancelling_speaks false x signals.Cancel = tt
cancelling_speaks true x (signals.Bye end) = tt
cancelling_speaks false x (signals.Bye end) = tt
cancelling_speaks true x (signals.Offer end method) = tt
cancelling_speaks false x (signals.Offer end method) = tt
cancelling_speaks true x signals.Ack = tt
cancelling_speaks false x signals.Ack = tt
cancelling_speaks true x signals.Repeat = tt
cancelling_speaks false x signals.Repeat = tt
cancelling_speaks true x signals.Wait = tt
cancelling_speaks true x signals.Lifetime = tt
cancelling_speaks false x signals.Wait = tt
cancelling_speaks false x signals.Lifetime = tt

answered_speaks : (inside : Bool) (interval : ℕ) (s : Standing) (x : End) (signal : Signal) → LineSpeaksIf s signal (answered_row inside interval x signal)
unfolding answered_row
answered_speaks inside interval s x signals.Ack = quiet _ false _ _ (tt, (tt, tt)) refl refl
answered_speaks true interval s x signals.Repeat = quiet _ false _ _ (tt, (tt, tt)) refl refl
answered_speaks false interval s x signals.Repeat = quiet _ false _ _ (tt, (tt, tt)) refl refl
answered_speaks inside interval s x signals.Wait = quiet _ false _ _ (tt, (tt, tt)) refl refl
answered_speaks true interval s x signals.Lifetime = quiet _ false _ _ (tt, tt) refl refl
answered_speaks false interval s x signals.Lifetime = quiet _ false _ _ (tt, tt) refl refl
answered_speaks inside interval s x (signals.Bye end) =
    either_if s (signals.Bye end) (is_same end x) (Some (gone (Okay x ∷ Bye (other x) ∷ []))) (Some (row (Okay (other x) ∷ RemoveRows ∷ []) x (stages.Ending interval)))
    (quiet _ false _ _ (tt, (tt, tt)) refl refl) (quiet _ false _ _ (tt, (tt, tt)) refl refl)
answered_speaks inside interval s x (signals.Provisional status) = tt
answered_speaks inside interval s x signals.FitAnswer = tt
answered_speaks inside interval s x signals.UnfitAnswer = tt
answered_speaks inside interval s x (signals.Refusal status) = tt
answered_speaks inside interval s x signals.TimedOut = tt
answered_speaks inside interval s x signals.Limit = tt
answered_speaks inside interval s x signals.Cancel = tt
answered_speaks inside interval s x (signals.Offer end method) = tt

settled_speaks : (s : Standing) (signal : Signal) → LineSpeaksIf s signal (settled_row signal)
unfolding settled_row
settled_speaks s (signals.Offer x Invite) = record { fit = (tt, (tt, tt)); answers = λ e. inl refl; waits_on = λ e. refl; comes = λ e. inl refl }
settled_speaks s (signals.Offer x Update) = record { fit = (tt, tt); answers = λ e. inl refl; waits_on = λ e. refl; comes = λ e. inl refl }
settled_speaks s (signals.Bye x) = quiet _ false _ _ (tt, (tt, tt)) refl refl
settled_speaks s (signals.Provisional status) = tt
settled_speaks s signals.FitAnswer = tt
settled_speaks s signals.UnfitAnswer = tt
settled_speaks s (signals.Refusal status) = tt
settled_speaks s signals.TimedOut = tt
settled_speaks s signals.Limit = tt
settled_speaks s signals.Cancel = tt
settled_speaks s signals.Ack = tt
settled_speaks s signals.Repeat = tt
settled_speaks s signals.Wait = tt
settled_speaks s signals.Lifetime = quiet _ false _ _ (tt, (tt, tt)) refl refl

rings_inside_speaks : (rung : Bool) (cancelled : Cancelled) (x : End) (status : ℕ) → IsEarly status → LineSpeaksIf (standing x (stages.Reasked rung cancelled)) (signals.Provisional status) (Some (rings_inside rung cancelled x status))
rings_inside_speaks rung Never x status f = goes_on _ false (rings rung short_time x status) _ refl (rings_fit rung short_time x status f) (rings_open rung short_time x status)
rings_inside_speaks rung Waits x status f =
    goes_on _ false (rings true short_time x status ++ Cancel (other x) ∷ Set timers.Limit short_time ∷ []) _ refl
    (fit_joined (rings true short_time x status) (Cancel (other x) ∷ Set timers.Limit short_time ∷ []) (rings_fit true short_time x status f) (tt, (tt, tt)))
    (final_joined (rings true short_time x status) (Cancel (other x) ∷ Set timers.Limit short_time ∷ []) (rings_open true short_time x status) refl)
rings_inside_speaks rung PassedOn x status f = goes_on _ false (rings rung short_time x status) _ refl (rings_fit rung short_time x status f) (rings_open rung short_time x status)

cancelled_speaks : (rung : Bool) (cancelled : Cancelled) (x : End) → LineSpeaksIf (standing x (stages.Reasked rung cancelled)) signals.Cancel (Some (cancelled_inside rung cancelled x))
cancelled_speaks true Never x = goes_on _ false _ _ refl (tt, (tt, (tt, tt))) refl
cancelled_speaks false Never x = goes_on _ false _ _ refl (tt, tt) refl
cancelled_speaks rung Waits x = goes_on _ false _ _ refl (tt, tt) refl
cancelled_speaks rung PassedOn x = goes_on _ false _ _ refl (tt, tt) refl

refused_speaks : (s : Standing) (x : End) (status : ℕ) → awaits_answer s.stage ≡ true → IsRefused status → LineSpeaksIf s (signals.Refusal status) (Some (refused_inside x status))
refused_speaks s x status w f =
    either s (signals.Refusal status) (has_lost_the_call status) (gone (Refusal x status ∷ Bye (other x) ∷ Bye x ∷ []))
    (row (Refusal x (status_passed_on status) ∷ Release ∷ Stop timers.Limit ∷ []) x stages.Settled) (over _ false _ _ w (f, (tt, (tt, tt))) refl) (over _ false _ _ w (passed_on status f, (tt, (tt, tt))) refl)

reasked_speaks : (rung : Bool) (cancelled : Cancelled) (x : End) (signal : Signal) → FitsSignal signal → LineSpeaksIf (standing x (stages.Reasked rung cancelled)) signal (reasked_row rung cancelled x signal)
unfolding reasked_row
reasked_speaks rung cancelled x (signals.Provisional status) f = rings_inside_speaks rung cancelled x status f
reasked_speaks rung cancelled x signals.FitAnswer f = over _ false _ _ refl (tt, (tt, (tt, (tt, (tt, (tt, tt)))))) refl
reasked_speaks rung cancelled x signals.UnfitAnswer f = over _ false _ _ refl (tt, (tt, ((omega arith, omega arith), (tt, tt)))) refl
reasked_speaks rung cancelled x (signals.Refusal status) f = refused_speaks _ x status refl f
reasked_speaks rung cancelled x signals.TimedOut f = over _ false _ _ refl ((omega arith, omega arith), (tt, (tt, tt))) refl
reasked_speaks true cancelled x signals.Limit f = over _ false _ _ refl ((omega arith, omega arith), (tt, (tt, (tt, tt)))) refl
reasked_speaks false cancelled x signals.Limit f = tt
reasked_speaks rung cancelled x signals.Cancel f = cancelled_speaks rung cancelled x
reasked_speaks rung cancelled x (signals.Bye end) f = over _ false _ _ refl (tt, ((omega arith, omega arith), (tt, (tt, tt)))) refl
reasked_speaks true cancelled x (signals.Offer end method) f = tt
reasked_speaks false cancelled x (signals.Offer end method) f = tt
reasked_speaks true cancelled x signals.Ack f = tt
reasked_speaks false cancelled x signals.Ack f = tt
reasked_speaks true cancelled x signals.Repeat f = tt
reasked_speaks false cancelled x signals.Repeat f = tt
reasked_speaks true cancelled x signals.Wait f = tt
reasked_speaks false cancelled x signals.Wait f = tt
reasked_speaks true cancelled x signals.Lifetime f = goes_on _ false _ _ refl (tt, tt) refl
reasked_speaks false cancelled x signals.Lifetime f = goes_on _ false _ _ refl (tt, tt) refl

update_speaks : (s : Standing) (x : End) (status : ℕ) → awaits_answer s.stage ≡ true → IsRefused status → LineSpeaksIf s (signals.Refusal status) (Some (update_refused x status))
update_speaks s x status w f =
    either s (signals.Refusal status) (has_lost_the_call status) (fails x status) (row (Refusal x (status_passed_on status) ∷ Release ∷ []) x stages.Settled)
    (over _ false _ _ w (f, (tt, (tt, tt))) refl) (over _ false _ _ w (passed_on status f, (tt, tt)) refl)

updating_speaks : (x : End) (signal : Signal) → FitsSignal signal → LineSpeaksIf (standing x stages.Updating) signal (updating_row x signal)
unfolding updating_row
updating_speaks x signals.FitAnswer f = over _ false _ _ refl (tt, (tt, tt)) refl
updating_speaks x signals.UnfitAnswer f = over _ false _ _ refl ((omega arith, omega arith), (tt, (tt, tt))) refl
updating_speaks x (signals.Refusal status) f = update_speaks _ x status refl f
updating_speaks x signals.TimedOut f = over _ false _ _ refl ((omega arith, omega arith), (tt, (tt, tt))) refl
updating_speaks x (signals.Bye end) f = over _ false _ _ refl (tt, ((omega arith, omega arith), (tt, tt))) refl
updating_speaks x (signals.Offer end method) f = tt
updating_speaks x (signals.Provisional status) f = tt
updating_speaks x signals.Ack f = tt
updating_speaks x signals.Cancel f = tt
updating_speaks x signals.Limit f = tt
updating_speaks x signals.Repeat f = tt
updating_speaks x signals.Wait f = tt
updating_speaks x signals.Lifetime f = goes_on _ false _ _ refl (tt, tt) refl

ending_speaks : (interval : ℕ) (x : End) (signal : Signal) → LineSpeaksIf (standing x (stages.Ending interval)) signal (ending_row interval x signal)
unfolding ending_row
ending_speaks interval x signals.Ack = quiet _ false _ _ (tt, tt) refl refl
ending_speaks interval x signals.Wait = quiet _ false _ _ (tt, tt) refl refl
ending_speaks interval x signals.Lifetime = tt
ending_speaks interval x signals.Repeat = quiet _ false _ _ (tt, (tt, tt)) refl refl
ending_speaks interval x (signals.Bye end) = either_if (standing x (stages.Ending interval)) (signals.Bye end) (is_same end x) (Some (gone (Okay x ∷ []))) None (quiet _ false _ _ (tt, tt) refl refl) tt
ending_speaks interval x (signals.Offer end method) = tt
ending_speaks interval x (signals.Provisional status) = tt
ending_speaks interval x signals.FitAnswer = tt
ending_speaks interval x signals.UnfitAnswer = tt
ending_speaks interval x (signals.Refusal status) = tt
ending_speaks interval x signals.TimedOut = tt
ending_speaks interval x signals.Cancel = tt
ending_speaks interval x signals.Limit = tt

line_in : (x : End) (stage : Stage) (signal : Signal) → FitsSignal signal → LineSpeaksIf (standing x stage) signal (row_in stage x signal)
line_in x (stages.Asked rung) signal f = asked_speaks rung x signal f
line_in x (stages.Cancelling sent) signal f = cancelling_speaks sent x signal
line_in x (stages.Answered interval) signal f = answered_speaks false interval _ x signal
line_in x stages.Settled signal f = settled_speaks _ signal
line_in x (stages.Reasked rung cancelled) signal f = reasked_speaks rung cancelled x signal f
line_in x (stages.Reanswered interval) signal f = answered_speaks true interval _ x signal
line_in x stages.Updating signal f = updating_speaks x signal f
line_in x (stages.Ending interval) signal f = ending_speaks interval x signal

pub line_speaks : (s : Standing) (signal : Signal) → FitsSignal signal → LineSpeaksIf s signal (row_of s signal)
unfolding row_of
line_speaks s signal f = line_in s.offerer s.stage signal f

-- ---- a step of a call

abbrev pub FitsInput : Input → Type 0
FitsInput (inputs.Provisional status) = IsEarly status
FitsInput (inputs.Refusal status) = IsRefused status
FitsInput input = Unit {0}

abbrev pub is_offer_input : Input → Bool
is_offer_input (inputs.Offer x method offer) = true
is_offer_input input = false

abbrev pub StepSpeaks : Standing → Bool → Step → Type 0
StepSpeaks s offer step = LineSpeaks s offer step.actions step.call.standing

idle_speaks : (c : Call) (s : Standing) (offer : Bool) (pool : pools.Contents) → c.standing ≡ Some s → StepSpeaks s offer (unchanged c pool)
idle_speaks c s offer pool stands = record {
  fit = tt;
  answers = λ e. absurd (false≢true e);
  waits_on = λ e. refl;
  comes = λ e. inr (subst (λ x. waits_in x ≡ true) stands e);
}

by_either : {X : Type 0} (P : X → Type 0) (b : Bool) (x y : X) → P x → P y → P (cond b x y)
by_either P true x y p q = p
by_either P false x y p q = q

signal_step_speaks : (c : Call) (s : Standing) (offer : Bool) (pool : pools.Contents) (now : ℕ) (line : Row) → LineSpeaks s offer line.actions line.next → StepSpeaks s offer (signal_step c pool now line)
signal_step_speaks c s offer pool now line h =
    by_either (StepSpeaks s offer) (ends_media line) (end_step c pool now line) (cond (releases line) (release_step c pool now line) (kept_step c pool line)) h
    (by_either (StepSpeaks s offer) (releases line) (release_step c pool now line) (kept_step c pool line) h h)

at_line_speaks : (c : Call) (s : Standing) (signal : Signal) (pool : pools.Contents) (now : ℕ) (line : Option Row) → c.standing ≡ Some s → LineSpeaksIf s signal line
    → StepSpeaks s (is_offer_signal signal) (at_line c pool (signal_step c pool now) line)
at_line_speaks c s signal pool now None stands h = idle_speaks c s (is_offer_signal signal) pool stands
at_line_speaks c s signal pool now (Some line) stands h = signal_step_speaks c s (is_offer_signal signal) pool now line h

signal_speaks : (c : Call) (s : Standing) (signal : Signal) (pool : pools.Contents) (now : ℕ) → c.standing ≡ Some s → FitsSignal signal → StepSpeaks s (is_offer_signal signal) (signal_at c s signal pool now)
signal_speaks c s signal pool now stands f = at_line_speaks c s signal pool now (row_of s signal) stands (line_speaks s signal f)

offer_line_speaks : (c : Call) (s : Standing) (x : End) (signal : Signal) (offer : Description) (pool : pools.Contents) (now : ℕ) (line : Option Row) → c.standing ≡ Some s → LineSpeaksIf s signal line
    → StepSpeaks s (is_offer_signal signal) (at_line c pool (offer_step c pool now x offer) line)
offer_line_speaks c s x signal offer pool now None stands h = idle_speaks c s (is_offer_signal signal) pool stands
offer_line_speaks c s x signal offer pool now (Some line) stands h = h

offer_speaks : (c : Call) (s : Standing) (x : End) (method : _) (offer : Option Description) (pool : pools.Contents) (now : ℕ) → c.standing ≡ Some s
    → StepSpeaks s true (offer_at c s (signals.Offer x method) x offer pool now)
offer_speaks c s x method None pool now stands = idle_speaks c s true pool stands
offer_speaks c s x method (Some offer) pool now stands =
    offer_line_speaks c s x (signals.Offer x method) offer pool now (row_of s (signals.Offer x method)) stands (line_speaks s (signals.Offer x method) tt)

answer_line_speaks : (c : Call) (s : Standing) (o : OpenOffer) (answer : Description) (pool : pools.Contents) (now : ℕ) (line : Option Row) → c.standing ≡ Some s → LineSpeaksIf s signals.FitAnswer line
    → StepSpeaks s false (at_line c pool (answer_step c pool now o answer) line)
answer_line_speaks c s o answer pool now None stands h = idle_speaks c s false pool stands
answer_line_speaks c s o answer pool now (Some line) stands h = h

fit_speaks : (c : Call) (s : Standing) (waiting : Option OpenOffer) (answer : Option Description) (pool : pools.Contents) (now : ℕ) → c.standing ≡ Some s
    → StepSpeaks s false (fit_at c s waiting answer pool now)
fit_speaks c s None answer pool now stands = idle_speaks c s false pool stands
fit_speaks c s (Some o) None pool now stands = idle_speaks c s false pool stands
fit_speaks c s (Some o) (Some answer) pool now stands = answer_line_speaks c s o answer pool now (row_of s signals.FitAnswer) stands (line_speaks s signals.FitAnswer tt)

answer_speaks : (c : Call) (s : Standing) (answer : Option Description) (pool : pools.Contents) (now : ℕ) → c.standing ≡ Some s → StepSpeaks s false (answer_at c s answer pool now)
answer_speaks c s answer pool now stands =
    by_either (StepSpeaks s false) (is_fit c c.media.offer answer) (fit_at c s c.media.offer answer pool now) (signal_at c s signals.UnfitAnswer pool now) (fit_speaks c s c.media.offer answer pool now stands)
    (signal_speaks c s signals.UnfitAnswer pool now stands tt)

step_speaks : (c : Call) (s : Standing) (input : Input) (pool : pools.Contents) (now : ℕ) → c.standing ≡ Some s → FitsInput input → StepSpeaks s (is_offer_input input) (step_at c s input pool now)
step_speaks c s (inputs.Offer x method offer) pool now stands f = offer_speaks c s x method offer pool now stands
step_speaks c s (inputs.Provisional status) pool now stands f = signal_speaks c s (signals.Provisional status) pool now stands f
step_speaks c s (inputs.Answer answer) pool now stands f = answer_speaks c s answer pool now stands
step_speaks c s (inputs.Refusal status) pool now stands f = signal_speaks c s (signals.Refusal status) pool now stands f
step_speaks c s inputs.TimedOut pool now stands f = signal_speaks c s signals.TimedOut pool now stands tt
step_speaks c s inputs.Ack pool now stands f = signal_speaks c s signals.Ack pool now stands tt
step_speaks c s inputs.Cancel pool now stands f = signal_speaks c s signals.Cancel pool now stands tt
step_speaks c s (inputs.Bye end) pool now stands f = signal_speaks c s (signals.Bye end) pool now stands tt
step_speaks c s inputs.Limit pool now stands f = signal_speaks c s signals.Limit pool now stands tt
step_speaks c s inputs.Repeat pool now stands f = signal_speaks c s signals.Repeat pool now stands tt
step_speaks c s inputs.Wait pool now stands f = signal_speaks c s signals.Wait pool now stands tt
step_speaks c s inputs.Lifetime pool now stands f = signal_speaks c s signals.Lifetime pool now stands tt

-- of a call, whatever its standing
abbrev pub OpenIn : Call → Bool → Type 0
OpenIn c offer = (offer ≡ true) ⊎ (waits_in c.standing ≡ true)

pub record CallSpeaks (c : Call) (offer : Bool) (step : Step) : Type 0 where
  pub fit : FitActions step.actions
  pub answers : answer_offer step.actions ≡ true → OpenIn c offer
  pub waits_on : waits_in step.call.standing ≡ true → says_final step.actions ≡ false
  pub comes : waits_in step.call.standing ≡ true → OpenIn c offer

open_in : (c : Call) (s : Standing) (offer : Bool) → c.standing ≡ Some s → Open s offer → OpenIn c offer
open_in c s offer stands (inl h) = inl h
open_in c s offer stands (inr h) = inr (subst (λ x. waits_in x ≡ true) (sym stands) h)

speaks_in : (c : Call) (standing : Option Standing) (input : Input) (pool : pools.Contents) (now : ℕ) → c.standing ≡ standing → FitsInput input → CallSpeaks c (is_offer_input input) (step_in c standing input pool now)
speaks_in c None input pool now stands f = record {
  fit = tt;
  answers = λ e. absurd (false≢true e);
  waits_on = λ e. refl;
  comes = λ e. absurd (false≢true (subst (λ x. waits_in x ≡ true) stands e));
}
speaks_in c (Some s) input pool now stands f =
    let h = step_speaks c s input pool now stands f in
    record {
      fit = h.fit;
      answers = λ e. open_in c s (is_offer_input input) stands (h.answers e);
      waits_on = h.waits_on;
      comes = λ e. open_in c s (is_offer_input input) stands (h.comes e);
    }

pub call_speaks : (c : Call) (input : Input) (pool : pools.Contents) (now : ℕ) → FitsInput input → CallSpeaks c (is_offer_input input) (call_row c input pool now)
unfolding call_row
call_speaks c input pool now f = speaks_in c c.standing input pool now refl f
