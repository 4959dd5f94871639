-- A step of a call counts numbers in its dialogs, places it and changes its media: what that keeps, each step keeps.
use Rattle.std.proofs.Common.{ℕ, cond, Option, Some, None}
use Rattle.port_pool.specs.Pool as pools
use Rattle.sdp.specs.declared.description.Description.{Description}
use Rattle.call_media.specs.declared.end.End.{End}
use Rattle.call_media.specs.declared.session.OpenOffer.{OpenOffer}
use Rattle.call_media.specs.declared.state.CallMedia.{CallMedia}
use Rattle.call_core.specs.CallRows.{answer_at, answer_step, at_line, call_row, end_step, first_call_row, fit_at, is_fit, kept_step, offer_at, offer_step, release_step, signal_at, signal_step, step_at, step_in}
use Rattle.call_core.specs.Calls.{after, none_counted}
use Rattle.call_core.specs.Plans.{Step, ends_media, releases}
use Rattle.call_core.specs.Table.{row_of}
use Rattle.call_core.specs.declared.call.Call.{Call}
use Rattle.call_core.specs.declared.input.Input.{Input}
use Rattle.call_core.specs.declared.input.Input.TheVariants as inputs
use Rattle.call_core.specs.declared.plan.Numbers.{Numbers}
use Rattle.call_core.specs.declared.row.Row.{Row}
use Rattle.call_core.specs.declared.signal.Signal.{Signal}
use Rattle.call_core.specs.declared.signal.Signal.TheVariants as signals
use Rattle.call_core.specs.declared.stage.Standing as stage
use Rattle.message_laws.proofs.TokenUse.Calls.{by_if}

module _ (P : Call → Call → Type 0) (keeps : (c : Call) (numbers : Numbers) (next : Option stage.Standing) (media : CallMedia) → P c (after c numbers next media)) where
  signal_kept : (c : Call) (pool : pools.Contents) (now : ℕ) (row : Row) → P c (signal_step c pool now row).call
  signal_kept c pool now row =
      by_if (λ (step : Step). P c step.call) (ends_media row) (end_step c pool now row) (cond (releases row) (release_step c pool now row) (kept_step c pool row)) (keeps c none_counted row.next _)
      (by_if (λ (step : Step). P c step.call) (releases row) (release_step c pool now row) (kept_step c pool row) (keeps c none_counted row.next _) (keeps c none_counted row.next c.media))

  line_kept : (c : Call) (pool : pools.Contents) (step : Row → Step) (row : Option Row) → ((r : Row) → P c (step r).call) → P c (at_line c pool step row).call
  line_kept c pool step None h = keeps c none_counted c.standing c.media
  line_kept c pool step (Some r) h = h r

  signalled : (c : Call) (s : stage.Standing) (signal : Signal) (pool : pools.Contents) (now : ℕ) → P c (signal_at c s signal pool now).call
  signalled c s signal pool now = line_kept c pool (signal_step c pool now) (row_of s signal) (signal_kept c pool now)

  offered : (c : Call) (s : stage.Standing) (signal : Signal) (x : End) (offer : Option Description) (pool : pools.Contents) (now : ℕ) → P c (offer_at c s signal x offer pool now).call
  offered c s signal x None pool now = keeps c none_counted c.standing c.media
  offered c s signal x (Some offer) pool now = line_kept c pool (offer_step c pool now x offer) (row_of s signal) (λ r. keeps c _ r.next _)

  fit_kept : (c : Call) (s : stage.Standing) (waiting : Option OpenOffer) (answer : Option Description) (pool : pools.Contents) (now : ℕ) → P c (fit_at c s waiting answer pool now).call
  fit_kept c s None answer pool now = keeps c none_counted c.standing c.media
  fit_kept c s (Some o) None pool now = keeps c none_counted c.standing c.media
  fit_kept c s (Some o) (Some answer) pool now = line_kept c pool (answer_step c pool now o answer) (row_of s signals.FitAnswer) (λ r. keeps c none_counted r.next _)

  answered : (c : Call) (s : stage.Standing) (answer : Option Description) (pool : pools.Contents) (now : ℕ) → P c (answer_at c s answer pool now).call
  answered c s answer pool now =
      by_if (λ (step : Step). P c step.call) (is_fit c c.media.offer answer) (fit_at c s c.media.offer answer pool now) (signal_at c s signals.UnfitAnswer pool now)
      (fit_kept c s c.media.offer answer pool now) (signalled c s signals.UnfitAnswer pool now)

  at_kept : (c : Call) (s : stage.Standing) (input : Input) (pool : pools.Contents) (now : ℕ) → P c (step_at c s input pool now).call
  at_kept c s (inputs.Offer x method offer) pool now = offered c s (signals.Offer x method) x offer pool now
  at_kept c s (inputs.Provisional status) pool now = signalled c s (signals.Provisional status) pool now
  at_kept c s (inputs.Answer answer) pool now = answered c s answer pool now
  at_kept c s (inputs.Refusal status) pool now = signalled c s (signals.Refusal status) pool now
  at_kept c s inputs.TimedOut pool now = signalled c s signals.TimedOut pool now
  at_kept c s inputs.Ack pool now = signalled c s signals.Ack pool now
  at_kept c s inputs.Cancel pool now = signalled c s signals.Cancel pool now
  at_kept c s (inputs.Bye end) pool now = signalled c s (signals.Bye end) pool now
  at_kept c s inputs.Limit pool now = signalled c s signals.Limit pool now
  at_kept c s inputs.Repeat pool now = signalled c s signals.Repeat pool now
  at_kept c s inputs.Wait pool now = signalled c s signals.Wait pool now
  at_kept c s inputs.Lifetime pool now = signalled c s signals.Lifetime pool now

  in_kept : (c : Call) (s : Option stage.Standing) (input : Input) (pool : pools.Contents) (now : ℕ) → P c (step_in c s input pool now).call
  in_kept c None input pool now = keeps c none_counted c.standing c.media
  in_kept c (Some s) input pool now = at_kept c s input pool now

  pub call_kept : (c : Call) (input : Input) (pool : pools.Contents) (now : ℕ) → P c (call_row c input pool now).call
  unfolding call_row
  call_kept c input pool now = in_kept c c.standing input pool now

  pub first_kept : (c : Call) (offer : Description) (pool : pools.Contents) (now : ℕ) → P c (first_call_row c offer pool now).call
  unfolding first_call_row
  first_kept c offer pool now = keeps c none_counted _ _
