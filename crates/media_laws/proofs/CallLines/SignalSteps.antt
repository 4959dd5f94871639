-- A step of a call for a signal is the line of the signal.
use Rattle.std.proofs.Common.{◌≡◌, ℕ, Bool, true, false, cond, Option, Some, None, refl, sym, subst, inl, inr}
use Rattle.port_pool.specs.Pool.{Contents}
use Rattle.call_core.specs.CallRows.{answer_at, at_line, call_row, end_step, is_fit, kept_step, release_step, signal_at, signal_step, step_at, step_in}
use Rattle.call_core.specs.Plans.{Step, ends_media, releases}
use Rattle.call_core.specs.Table.{row_of}
use Rattle.call_core.specs.declared.call.Call.{Call}
use Rattle.call_core.specs.declared.input.Input.{Input}
use Rattle.call_core.specs.declared.input.Input.TheVariants as inputs
use Rattle.call_core.specs.declared.row.Row.{Row}
use Rattle.call_core.specs.declared.signal.Signal.{Signal}
use Rattle.call_core.specs.declared.signal.Signal.TheVariants as signals
use Rattle.call_core.specs.declared.stage.Standing.{Standing}
use Rattle.sdp.specs.declared.description.Description.{Description}
use Rattle.media_laws.specs.Lines.{actions_in, next_in}
use Rattle.media_laws.specs.Steps.{IsSignalOf, IsSignalStep, KeepsMedia}

-- what a line results in
record IsLineStep (c : Call) (n : Standing) (line : Option Row) (step : Step) : Type 0 where
  actions : step.actions ≡ actions_in line
  next : step.call.standing ≡ next_in n line
  media : KeepsMedia c step.call
  caller : step.call.caller ≡ c.caller
  callee : step.call.callee ≡ c.callee

ended_step : (c : Call) (n : Standing) (pool : Contents) (now : ℕ) (line : Row) → IsLineStep c n (Some line) (end_step c pool now line)
ended_step c n pool now line = record { actions = refl; next = refl; media = record { session = inr refl; offer = inr refl }; caller = refl; callee = refl }

released_step : (c : Call) (n : Standing) (pool : Contents) (now : ℕ) (line : Row) → IsLineStep c n (Some line) (release_step c pool now line)
released_step c n pool now line = record { actions = refl; next = refl; media = record { session = inl refl; offer = inr refl }; caller = refl; callee = refl }

same_step : (c : Call) (n : Standing) (pool : Contents) (line : Row) → IsLineStep c n (Some line) (kept_step c pool line)
same_step c n pool line = record { actions = refl; next = refl; media = record { session = inl refl; offer = inl refl }; caller = refl; callee = refl }

by_bool : {X : Type 0} (P : X → Type 0) (b : Bool) (x y : X) → P x → P y → P (cond b x y)
by_bool P true x y p q = p
by_bool P false x y p q = q

line_step : (c : Call) (n : Standing) (pool : Contents) (now : ℕ) (line : Option Row) → c.standing ≡ Some n → IsLineStep c n line (at_line c pool (signal_step c pool now) line)
line_step c n pool now None stands = record { actions = refl; next = stands; media = record { session = inl refl; offer = inl refl }; caller = refl; callee = refl }
line_step c n pool now (Some line) stands =
    by_bool (IsLineStep c n (Some line)) (ends_media line) (end_step c pool now line) (cond (releases line) (release_step c pool now line) (kept_step c pool line)) (ended_step c n pool now line)
    (by_bool (IsLineStep c n (Some line)) (releases line) (release_step c pool now line) (kept_step c pool line) (released_step c n pool now line) (same_step c n pool line))

at_signal : (c : Call) (n : Standing) (signal : Signal) (pool : Contents) (now : ℕ) → c.standing ≡ Some n → IsSignalStep c n signal (signal_at c n signal pool now)
at_signal c n signal pool now stands =
    let h = line_step c n pool now (row_of n signal) stands in
    record { actions = h.actions; next = h.next; media = h.media; caller = h.caller; callee = h.callee }

unfit_step : (c : Call) (n : Standing) (answer : Option Description) (pool : Contents) (now : ℕ) (b : Bool) → is_fit c c.media.offer answer ≡ b → b ≡ false → c.standing ≡ Some n
    → IsSignalStep c n signals.UnfitAnswer (answer_at c n answer pool now)
unfit_step c n answer pool now true fit none stands = absurd cc
unfit_step c n answer pool now false fit none stands = rw fit (at_signal c n signals.UnfitAnswer pool now stands)

at_input : (c : Call) (n : Standing) (input : Input) (signal : Signal) (pool : Contents) (now : ℕ) → c.standing ≡ Some n → IsSignalOf c input signal → IsSignalStep c n signal (step_at c n input pool now)
at_input c n (inputs.Offer end method offer) signal pool now stands is = absurd is
at_input c n (inputs.Provisional status) signal pool now stands is = subst (λ x. IsSignalStep c n x (step_at c n (inputs.Provisional status) pool now)) (sym is) (at_signal c n (signals.Provisional status) pool now stands)
at_input c n (inputs.Answer answer) signal pool now stands is =
    subst (λ x. IsSignalStep c n x (step_at c n (inputs.Answer answer) pool now)) (sym is.1) (unfit_step c n answer pool now (is_fit c c.media.offer answer) refl is.0 stands)
at_input c n (inputs.Refusal status) signal pool now stands is = subst (λ x. IsSignalStep c n x (step_at c n (inputs.Refusal status) pool now)) (sym is) (at_signal c n (signals.Refusal status) pool now stands)
at_input c n inputs.TimedOut signal pool now stands is = subst (λ x. IsSignalStep c n x (step_at c n inputs.TimedOut pool now)) (sym is) (at_signal c n signals.TimedOut pool now stands)
at_input c n inputs.Ack signal pool now stands is = subst (λ x. IsSignalStep c n x (step_at c n inputs.Ack pool now)) (sym is) (at_signal c n signals.Ack pool now stands)
at_input c n inputs.Cancel signal pool now stands is = subst (λ x. IsSignalStep c n x (step_at c n inputs.Cancel pool now)) (sym is) (at_signal c n signals.Cancel pool now stands)
at_input c n (inputs.Bye end) signal pool now stands is = subst (λ x. IsSignalStep c n x (step_at c n (inputs.Bye end) pool now)) (sym is) (at_signal c n (signals.Bye end) pool now stands)
at_input c n inputs.Limit signal pool now stands is = subst (λ x. IsSignalStep c n x (step_at c n inputs.Limit pool now)) (sym is) (at_signal c n signals.Limit pool now stands)
at_input c n inputs.Repeat signal pool now stands is = subst (λ x. IsSignalStep c n x (step_at c n inputs.Repeat pool now)) (sym is) (at_signal c n signals.Repeat pool now stands)
at_input c n inputs.Wait signal pool now stands is = subst (λ x. IsSignalStep c n x (step_at c n inputs.Wait pool now)) (sym is) (at_signal c n signals.Wait pool now stands)
at_input c n inputs.Lifetime signal pool now stands is = subst (λ x. IsSignalStep c n x (step_at c n inputs.Lifetime pool now)) (sym is) (at_signal c n signals.Lifetime pool now stands)

in_standing : (c : Call) (n : Standing) (standing : Option Standing) (input : Input) (signal : Signal) (pool : Contents) (now : ℕ) → standing ≡ Some n → c.standing ≡ Some n → IsSignalOf c input signal
    → IsSignalStep c n signal (step_in c standing input pool now)
in_standing c n standing input signal pool now is stands of = subst (λ o. IsSignalStep c n signal (step_in c o input pool now)) (sym is) (at_input c n input signal pool now stands of)

pub signal_row : (c : Call) (n : Standing) (input : Input) (signal : Signal) (pool : Contents) (now : ℕ) → c.standing ≡ Some n → IsSignalOf c input signal → IsSignalStep c n signal (call_row c input pool now)
unfolding call_row
signal_row c n input signal pool now stands of = in_standing c n c.standing input signal pool now stands stands of
