-- The session of a call, over its inputs.
use Rattle.std.proofs.Common.{◌≡◌, ℕ, Bool, true, false, cond, Option, Some, None, refl, sym, subst}
use Rattle.std.specs.Prelude.{is_none}
use Rattle.port_pool.specs.Pool.{Contents}
use Rattle.sdp.specs.declared.description.Description.{Description}
use Rattle.offer_answer.specs.Checks.{answer_fault}
use Rattle.call_media.specs.declared.end.End.{End}
use Rattle.call_media.specs.declared.session.OpenOffer.{OpenOffer}
use Rattle.call_media.specs.declared.session.Session.{Session}
use Rattle.call_media.specs.Answers.{answer_sent, session_over}
use Rattle.call_core.specs.declared.call.Call.{Call}
use Rattle.call_core.specs.declared.input.Input.{Input}
use Rattle.call_core.specs.declared.input.Input.TheVariants as inputs
use Rattle.call_core.specs.declared.row.Row.{Row}
use Rattle.call_core.specs.declared.signal.Signal.{Signal}
use Rattle.call_core.specs.declared.signal.Signal.TheVariants as signals
use Rattle.call_core.specs.declared.stage.Standing.{Standing}
use Rattle.call_core.specs.CallRows.{answer_at, answer_step, at_line, call_row, end_step, fit_at, is_fit, is_fit_input, kept_step, offer_at, offer_step, release_step, signal_at, signal_step, step_at, step_in}
use Rattle.call_core.specs.Calls.{awaits_answer}
use Rattle.call_core.specs.Plans.{AnswersOn, IsLine, Step, ends_media, releases}
use Rattle.call_core.specs.Table.{row_of}
use Rattle.call_core.proofs.TableLaws.{answer_leads}

-- ---- a fit 2xx

line_sets : (c : Call) (pool : Contents) (now : ℕ) (o : OpenOffer) (answer : Description) (line : Option Row) → IsLine AnswersOn line
    → (at_line c pool (answer_step c pool now o answer) line).call.media.session ≡ Some (session_over o (answer_sent c.media o answer) answer)
line_sets c pool now o answer None h = absurd h
line_sets c pool now o answer (Some row) h = refl

pub fit_sets : (c : Call) (s : Standing) (pool : Contents) (now : ℕ) (o : OpenOffer) (answer : Description) → c.standing ≡ Some s → awaits_answer s.stage ≡ true
    → c.media.offer ≡ Some o → answer_fault c.media.range o.offer_sent answer ≡ None
    → (call_row c (inputs.Answer (Some answer)) pool now).call.media.session ≡ Some (session_over o (answer_sent c.media o answer) answer)
unfolding call_row
fit_sets c s pool now o answer stands waits is fault =
    let made = Some (session_over o (answer_sent c.media o answer) answer) in
    let unfit = signal_at c s signals.UnfitAnswer pool now in
    let line = at_line c pool (answer_step c pool now o answer) (row_of s signals.FitAnswer) in
    let here = line_sets c pool now o answer (row_of s signals.FitAnswer) (answer_leads s waits) in
    let fits = subst (λ f. (cond (is_none f) line unfit).call.media.session ≡ made) (sym fault) here in
    let open_there = subst (λ offer. (cond (is_fit c offer (Some answer)) (fit_at c s offer (Some answer) pool now) unfit).call.media.session ≡ made) (sym is) fits in
    subst (λ st. (step_in c st (inputs.Answer (Some answer)) pool now).call.media.session ≡ made) (sym stands) open_there

-- ---- the other inputs

Makes : Call → Step → Type 0
Makes c step = (s : Session) → step.call.media.session ≡ Some s → c.media.session ≡ Some s

signal_makes : (c : Call) (pool : Contents) (now : ℕ) (line : Option Row) → Makes c (at_line c pool (signal_step c pool now) line)
unfolding Makes
signal_makes c pool now None = λ s h. h
signal_makes c pool now (Some row) = by_end (ends_media row) (releases row) where
  by_end : (ends frees : Bool) → (s : Session) → (cond ends (end_step c pool now row) (cond frees (release_step c pool now row) (kept_step c pool row))).call.media.session ≡ Some s
      → c.media.session ≡ Some s
  by_end true frees s h = absurd cc
  by_end false true s h = h
  by_end false false s h = h

offer_makes : (c : Call) (pool : Contents) (now : ℕ) (x : End) (offer : Option Description) (s : Standing) (signal : Signal) → Makes c (offer_at c s signal x offer pool now)
unfolding Makes
offer_makes c pool now x None s signal = λ t h. h
offer_makes c pool now x (Some offer) s signal = by_line (row_of s signal) where
  by_line : (line : Option Row) (t : Session) → (at_line c pool (offer_step c pool now x offer) line).call.media.session ≡ Some t → c.media.session ≡ Some t
  by_line None t h = h
  by_line (Some row) t h = h

answer_makes : (c : Call) (pool : Contents) (now : ℕ) (s : Standing) (answer : Option Description) → is_fit c c.media.offer answer ≡ false
    → Makes c (answer_at c s answer pool now)
answer_makes c pool now s answer unfit = rw unfit (signal_makes c pool now (row_of s signals.UnfitAnswer))

step_makes : (c : Call) (s : Standing) (input : Input) (pool : Contents) (now : ℕ) → is_fit_input c input ≡ false → Makes c (step_at c s input pool now)
step_makes c s (inputs.Offer x method offer) pool now h = offer_makes c pool now x offer s (signals.Offer x method)
step_makes c s (inputs.Answer answer) pool now h = answer_makes c pool now s answer h
step_makes c s (inputs.Provisional status) pool now h = signal_makes c pool now (row_of s (signals.Provisional status))
step_makes c s (inputs.Refusal status) pool now h = signal_makes c pool now (row_of s (signals.Refusal status))
step_makes c s inputs.TimedOut pool now h = signal_makes c pool now (row_of s signals.TimedOut)
step_makes c s inputs.Ack pool now h = signal_makes c pool now (row_of s signals.Ack)
step_makes c s inputs.Cancel pool now h = signal_makes c pool now (row_of s signals.Cancel)
step_makes c s (inputs.Bye end) pool now h = signal_makes c pool now (row_of s (signals.Bye end))
step_makes c s inputs.Limit pool now h = signal_makes c pool now (row_of s signals.Limit)
step_makes c s inputs.Repeat pool now h = signal_makes c pool now (row_of s signals.Repeat)
step_makes c s inputs.Wait pool now h = signal_makes c pool now (row_of s signals.Wait)
step_makes c s inputs.Lifetime pool now h = signal_makes c pool now (row_of s signals.Lifetime)

in_makes : (c : Call) (standing : Option Standing) (input : Input) (pool : Contents) (now : ℕ) → is_fit_input c input ≡ false → Makes c (step_in c standing input pool now)
unfolding Makes
in_makes c None input pool now h = λ s k. k
in_makes c (Some s) input pool now h = step_makes c s input pool now h

pub no_other_makes : (c : Call) (input : Input) (pool : Contents) (now : ℕ) (s : Session) → is_fit_input c input ≡ false
    → (call_row c input pool now).call.media.session ≡ Some s → c.media.session ≡ Some s
unfolding call_row Makes
no_other_makes c input pool now s h k = in_makes c c.standing input pool now h s k
