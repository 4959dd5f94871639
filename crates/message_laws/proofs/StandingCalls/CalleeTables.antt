-- A call whose first INVITE has no answer is so after each input but a fit answer, or is gone.
use Rattle.std.proofs.Common.{◌≡◌, ◌∙◌, ℕ, Bool, true, false, cond, Option, Some, None, refl, sym, subst}
use Rattle.std.proofs.lemmas.Bool.{false≢true}
use Rattle.std.proofs.lemmas.Option.{none-some}
use Rattle.port_pool.specs.Pool as pools
use Rattle.sdp.specs.declared.description.Description.{Description}
use Rattle.call_media.specs.Ends.{is_same}
use Rattle.call_media.specs.declared.end.End.{End}
use Rattle.call_core.specs.Asked.{asked_row, given_up}
use Rattle.call_core.specs.CallRows.{at_line, call_row, end_step, fit_at, is_fit, is_fit_input, kept_step, release_step, signal_at, signal_step, step_at, step_in}
use Rattle.call_core.specs.Cancelling.{cancelling_row}
use Rattle.call_core.specs.Plans.{Step, ends_media, releases}
use Rattle.call_core.specs.Table.{row_in, row_of}
use Rattle.call_core.specs.declared.call.Call.{Call}
use Rattle.call_core.specs.declared.input.Input.{Input}
use Rattle.call_core.specs.declared.input.Input.TheVariants as inputs
use Rattle.call_core.specs.declared.row.Row.{Row}
use Rattle.call_core.specs.declared.signal.Signal.{Signal}
use Rattle.call_core.specs.declared.signal.Signal.TheVariants as signals
use Rattle.call_core.specs.declared.stage.Stage.{Stage}
use Rattle.call_core.specs.declared.stage.Stage.TheVariants as stages
use Rattle.call_core.specs.declared.stage.Standing.{Standing}
use Rattle.message_laws.specs.CalleeDialogs.{is_unanswered}
use Rattle.message_laws.proofs.TokenUse.Calls.{by_if}
use Rattle.message_laws.proofs.AwaitedOffers.Tables.{IsNoOfferInput}

-- gone, or unanswered still, with the same end's offer
abbrev pub StaysUnanswered : End → Option Standing → Type 0
StaysUnanswered x None = Unit {0}
StaysUnanswered x (Some n) = (is_unanswered n.stage ≡ true) × (n.offerer ≡ x)

abbrev LineStays : End → Option Row → Type 0
LineStays x None = Unit {0}
LineStays x (Some line) = StaysUnanswered x line.next

abbrev is_fit_signal : Signal → Bool
is_fit_signal signals.FitAnswer = true
is_fit_signal signal = false

given_up_stays : (rung : Bool) (x : End) → StaysUnanswered x (given_up rung x).next
given_up_stays true x = (refl, refl)
given_up_stays false x = (refl, refl)

asked_stays : (rung : Bool) (x : End) (signal : Signal) → is_fit_signal signal ≡ false → LineStays x (asked_row rung x signal)
unfolding asked_row
asked_stays rung x (signals.Provisional status) n = (refl, refl)
asked_stays rung x signals.FitAnswer n = absurd (false≢true (sym n))
asked_stays rung x signals.UnfitAnswer n = tt
asked_stays rung x (signals.Refusal status) n = tt
asked_stays rung x signals.TimedOut n = tt
asked_stays true x signals.Limit n = (refl, refl)
asked_stays false x signals.Limit n = tt
asked_stays rung x signals.Cancel n = given_up_stays rung x
asked_stays rung x (signals.Bye end) n = by_end (is_same end x)
  where
    by_end : (b : Bool) → LineStays x (cond b (Some (given_up rung x)) None)
    by_end true = given_up_stays rung x
    by_end false = tt
asked_stays rung x (signals.Offer end method) n = tt
asked_stays rung x signals.Ack n = tt
asked_stays rung x signals.Repeat n = tt
asked_stays rung x signals.Wait n = tt
asked_stays rung x signals.Lifetime n = tt

cancelling_stays : (sent : Bool) (x : End) (signal : Signal) → LineStays x (cancelling_row sent x signal)
unfolding cancelling_row
cancelling_stays false x (signals.Provisional status) = (refl, refl)
cancelling_stays true x (signals.Provisional status) = (refl, refl)
cancelling_stays true x signals.FitAnswer = tt
cancelling_stays false x signals.FitAnswer = tt
cancelling_stays true x signals.UnfitAnswer = tt
cancelling_stays false x signals.UnfitAnswer = tt
cancelling_stays true x (signals.Refusal status) = tt
cancelling_stays false x (signals.Refusal status) = tt
cancelling_stays true x signals.TimedOut = tt
cancelling_stays false x signals.TimedOut = tt
cancelling_stays true x signals.Limit = tt
cancelling_stays false x signals.Limit = tt
cancelling_stays true x (signals.Offer end method) = tt
cancelling_stays false x (signals.Offer end method) = tt
cancelling_stays true x signals.Ack = tt
cancelling_stays false x signals.Ack = tt
cancelling_stays true x signals.Cancel = tt
cancelling_stays false x signals.Cancel = tt
cancelling_stays true x (signals.Bye end) = tt
cancelling_stays false x (signals.Bye end) = tt
cancelling_stays true x signals.Repeat = tt
cancelling_stays false x signals.Repeat = tt
cancelling_stays true x signals.Wait = tt
cancelling_stays true x signals.Lifetime = tt
cancelling_stays false x signals.Wait = tt
cancelling_stays false x signals.Lifetime = tt

stage_stays : (x : End) (stage : Stage) (signal : Signal) → is_unanswered stage ≡ true → is_fit_signal signal ≡ false → LineStays x (row_in stage x signal)
stage_stays x (stages.Asked rung) signal u n = asked_stays rung x signal n
stage_stays x (stages.Cancelling sent) signal u n = cancelling_stays sent x signal
stage_stays x (stages.Answered interval) signal u n = absurd (false≢true u)
stage_stays x stages.Settled signal u n = absurd (false≢true u)
stage_stays x (stages.Reasked rung cancelled) signal u n = absurd (false≢true u)
stage_stays x (stages.Reanswered interval) signal u n = absurd (false≢true u)
stage_stays x stages.Updating signal u n = absurd (false≢true u)
stage_stays x (stages.Ending interval) signal u n = absurd (false≢true u)

line_stays : (s : Standing) (signal : Signal) → is_unanswered s.stage ≡ true → is_fit_signal signal ≡ false → LineStays s.offerer (row_of s signal)
unfolding row_of
line_stays s signal u n = stage_stays s.offerer s.stage signal u n

-- ---- a step

idle_stays : (c : Call) (s : Standing) → c.standing ≡ Some s → is_unanswered s.stage ≡ true → StaysUnanswered s.offerer c.standing
idle_stays c s stands u = subst (StaysUnanswered s.offerer) (sym stands) (u, refl)

step_stays : (x : End) (c : Call) (pool : pools.Contents) (now : ℕ) (line : Row) → StaysUnanswered x line.next → StaysUnanswered x (signal_step c pool now line).call.standing
step_stays x c pool now line h =
    by_if (λ (step : Step). StaysUnanswered x step.call.standing) (ends_media line) (end_step c pool now line) (cond (releases line) (release_step c pool now line) (kept_step c pool line)) h
    (by_if (λ (step : Step). StaysUnanswered x step.call.standing) (releases line) (release_step c pool now line) (kept_step c pool line) h h)

at_line_stays : (c : Call) (s : Standing) (pool : pools.Contents) (now : ℕ) (line : Option Row) → c.standing ≡ Some s → is_unanswered s.stage ≡ true → LineStays s.offerer line
    → StaysUnanswered s.offerer (at_line c pool (signal_step c pool now) line).call.standing
at_line_stays c s pool now None stands u h = idle_stays c s stands u
at_line_stays c s pool now (Some line) stands u h = step_stays s.offerer c pool now line h

signal_stays : (c : Call) (s : Standing) (signal : Signal) (pool : pools.Contents) (now : ℕ) → c.standing ≡ Some s → is_unanswered s.stage ≡ true → is_fit_signal signal ≡ false
    → StaysUnanswered s.offerer (signal_at c s signal pool now).call.standing
signal_stays c s signal pool now stands u n = at_line_stays c s pool now (row_of s signal) stands u (line_stays s signal u n)

answer_stays : (c : Call) (s : Standing) (answer : Option Description) (pool : pools.Contents) (now : ℕ) (b : Bool) → c.standing ≡ Some s → is_unanswered s.stage ≡ true → b ≡ false
    → StaysUnanswered s.offerer (cond b (fit_at c s c.media.offer answer pool now) (signal_at c s signals.UnfitAnswer pool now)).call.standing
answer_stays c s answer pool now true stands u unfit = absurd (false≢true (sym unfit))
answer_stays c s answer pool now false stands u unfit = signal_stays c s signals.UnfitAnswer pool now stands u refl

at_stays : (c : Call) (s : Standing) (input : Input) (pool : pools.Contents) (now : ℕ) → c.standing ≡ Some s → is_unanswered s.stage ≡ true → IsNoOfferInput input → is_fit_input c input ≡ false
    → StaysUnanswered s.offerer (step_at c s input pool now).call.standing
at_stays c s (inputs.Offer x method offer) pool now stands u n unfit = absurd n
at_stays c s (inputs.Provisional status) pool now stands u n unfit = signal_stays c s (signals.Provisional status) pool now stands u refl
at_stays c s (inputs.Answer answer) pool now stands u n unfit = answer_stays c s answer pool now (is_fit c c.media.offer answer) stands u unfit
at_stays c s (inputs.Refusal status) pool now stands u n unfit = signal_stays c s (signals.Refusal status) pool now stands u refl
at_stays c s inputs.TimedOut pool now stands u n unfit = signal_stays c s signals.TimedOut pool now stands u refl
at_stays c s inputs.Ack pool now stands u n unfit = signal_stays c s signals.Ack pool now stands u refl
at_stays c s inputs.Cancel pool now stands u n unfit = signal_stays c s signals.Cancel pool now stands u refl
at_stays c s (inputs.Bye end) pool now stands u n unfit = signal_stays c s (signals.Bye end) pool now stands u refl
at_stays c s inputs.Limit pool now stands u n unfit = signal_stays c s signals.Limit pool now stands u refl
at_stays c s inputs.Repeat pool now stands u n unfit = signal_stays c s signals.Repeat pool now stands u refl
at_stays c s inputs.Wait pool now stands u n unfit = signal_stays c s signals.Wait pool now stands u refl
at_stays c s inputs.Lifetime pool now stands u n unfit = signal_stays c s signals.Lifetime pool now stands u refl

in_stays : (c : Call) (s : Standing) (standing : Option Standing) (input : Input) (pool : pools.Contents) (now : ℕ) → c.standing ≡ standing → standing ≡ Some s → is_unanswered s.stage ≡ true → IsNoOfferInput input
    → is_fit_input c input ≡ false → StaysUnanswered s.offerer (step_in c standing input pool now).call.standing
in_stays c s None input pool now is stands u n unfit = absurd (none-some s stands)
in_stays c s (Some r) input pool now is stands u n unfit =
    subst (λ (t : Option Standing). StaysUnanswered s.offerer (step_in c t input pool now).call.standing) (sym stands) (at_stays c s input pool now (is ∙ stands) u n unfit)

pub call_stays : (c : Call) (s : Standing) (input : Input) (pool : pools.Contents) (now : ℕ) → c.standing ≡ Some s → is_unanswered s.stage ≡ true → IsNoOfferInput input → is_fit_input c input ≡ false
    → StaysUnanswered s.offerer (call_row c input pool now).call.standing
unfolding call_row
call_stays c s input pool now stands u n unfit = in_stays c s c.standing input pool now refl stands u n unfit

nowhere_in : (c : Call) (standing : Option Standing) (input : Input) (pool : pools.Contents) (now : ℕ) → c.standing ≡ standing → standing ≡ None → (step_in c standing input pool now).call.standing ≡ None
nowhere_in c None input pool now is none = is
nowhere_in c (Some s) input pool now is none = absurd (none-some s (sym none))

-- a call without a standing does nothing
pub call_nowhere : (c : Call) (input : Input) (pool : pools.Contents) (now : ℕ) → c.standing ≡ None → (call_row c input pool now).call.standing ≡ None
unfolding call_row
call_nowhere c input pool now none = nowhere_in c c.standing input pool now refl none
