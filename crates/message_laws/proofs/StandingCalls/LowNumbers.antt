-- A step of a call counts no number past those of CSeq, where one is left for the offer that it takes.
use Rattle.std.proofs.Common.{◌≡◌, ℕ, ◌+◌, ◌<◌, ◌≤◌, true, cond, Option, Some, None, option_map, arith}
use Rattle.std.proofs.lemmas.Bool.{ltb-true}
use Rattle.port_pool.specs.Pool as pools
use Rattle.sip_message.specs.CSeq.{max_cseq}
use Rattle.sdp.specs.declared.description.Description.{Description}
use Rattle.dialogs.specs.declared.method.Method.{Method}
use Rattle.dialogs.specs.declared.method.Method.TheVariants.{Bye, Invite, Update}
use Rattle.dialogs.specs.declared.state.Dialog.{Dialog}
use Rattle.dialogs.specs.Counting.{following, max_for, last_number}
use Rattle.call_media.specs.Ends.{other}
use Rattle.call_media.specs.declared.end.End.{End}
use Rattle.call_media.specs.declared.end.End.TheVariants.{Callee, Caller}
use Rattle.call_media.specs.declared.session.OpenOffer.{OpenOffer}
use Rattle.call_media.specs.declared.state.CallMedia.{CallMedia}
use Rattle.call_core.specs.CallRows.{answer_at, answer_step, at_line, call_row, end_step, first_call_row, fit_at, is_fit, kept_step, offer_at, offer_step, release_step, signal_at, signal_step, step_at, step_in}
use Rattle.call_core.specs.Calls.{after, dialog_of, has_number_left, none_counted, number_to, numbers_to, with_number_if}
use Rattle.call_core.specs.Plans.{Step, ends_media, releases}
use Rattle.call_core.specs.Table.{row_of}
use Rattle.call_core.specs.declared.call.Call.{Call}
use Rattle.call_core.specs.declared.input.Input.{Input}
use Rattle.call_core.specs.declared.input.Input.TheVariants as inputs
use Rattle.call_core.specs.declared.row.Row.{Row}
use Rattle.call_core.specs.declared.signal.Signal.{Signal}
use Rattle.call_core.specs.declared.signal.Signal.TheVariants as signals
use Rattle.call_core.specs.declared.stage.Standing as stage
use Rattle.message_laws.proofs.TokenUse.Calls.{by_if}
use Rattle.message_laws.specs.SoundClients.{CountsLowIf}
use Rattle.message_laws.specs.SoundScenes.{CountsLow}

-- a number is left for a request of this method
pub number_low : (last : ℕ) (method : Method) → last < max_for method → last + 1 ≤ max_cseq
number_low last Invite lt = omega (arith, lt)
number_low last Update lt = omega (arith, lt)
number_low last Bye lt = omega (arith, lt)

-- its dialogs count low where they did
pub record KeepsLow (a b : Call) : Type 0 where
  pub caller : CountsLow a.caller → CountsLow b.caller
  pub callee : CountsLowIf a.callee → CountsLowIf b.callee

moved_low : (c : Call) (next : Option stage.Standing) (media : CallMedia) → KeepsLow c (after c none_counted next media)
moved_low c next media = record { caller = λ h. h; callee = λ h. h }

-- an offer is passed on to the end across

left_low : (d : Dialog) → has_number_left (Some d) ≡ true → following d ≤ max_cseq
left_low d left = number_low (last_number d) Invite (ltb-true (last_number d) (max_for Invite) left)

callee_low : (d : Option Dialog) → has_number_left d ≡ true → CountsLowIf (with_number_if (option_map following d) d)
callee_low None left = tt
callee_low (Some d) left = left_low d left

opened_low : (c : Call) (x : End) (next : Option stage.Standing) (media : CallMedia) → has_number_left (dialog_of (other x) c) ≡ true → KeepsLow c (after c (numbers_to (other x) (number_to (other x) c)) next media)
opened_low c Caller next media left = record { caller = λ h. h; callee = λ h. callee_low c.callee left }
opened_low c Callee next media left = record { caller = λ h. left_low c.caller left; callee = λ h. h }

-- ---- each step

abbrev StepsLow : Call → Step → Type 0
StepsLow c step = KeepsLow c step.call

line_signal_low : (c : Call) (pool : pools.Contents) (now : ℕ) (row : Row) → StepsLow c (signal_step c pool now row)
line_signal_low c pool now row =
    by_if (StepsLow c) (ends_media row) (end_step c pool now row) (cond (releases row) (release_step c pool now row) (kept_step c pool row)) (moved_low c row.next _)
    (by_if (StepsLow c) (releases row) (release_step c pool now row) (kept_step c pool row) (moved_low c row.next _) (moved_low c row.next c.media))

line_low : (c : Call) (pool : pools.Contents) (step : Row → Step) (row : Option Row) → ((r : Row) → StepsLow c (step r)) → StepsLow c (at_line c pool step row)
line_low c pool step None h = moved_low c c.standing c.media
line_low c pool step (Some r) h = h r

signal_low : (c : Call) (s : stage.Standing) (signal : Signal) (pool : pools.Contents) (now : ℕ) → StepsLow c (signal_at c s signal pool now)
signal_low c s signal pool now = line_low c pool (signal_step c pool now) (row_of s signal) (line_signal_low c pool now)

offer_low : (c : Call) (s : stage.Standing) (signal : Signal) (x : End) (offer : Option Description) (pool : pools.Contents) (now : ℕ) → has_number_left (dialog_of (other x) c) ≡ true
    → StepsLow c (offer_at c s signal x offer pool now)
offer_low c s signal x None pool now left = moved_low c c.standing c.media
offer_low c s signal x (Some offer) pool now left = line_low c pool (offer_step c pool now x offer) (row_of s signal) (λ r. opened_low c x r.next _ left)

fit_low : (c : Call) (s : stage.Standing) (waiting : Option OpenOffer) (answer : Option Description) (pool : pools.Contents) (now : ℕ) → StepsLow c (fit_at c s waiting answer pool now)
fit_low c s None answer pool now = moved_low c c.standing c.media
fit_low c s (Some o) None pool now = moved_low c c.standing c.media
fit_low c s (Some o) (Some answer) pool now = line_low c pool (answer_step c pool now o answer) (row_of s signals.FitAnswer) (λ r. moved_low c r.next _)

answer_low : (c : Call) (s : stage.Standing) (answer : Option Description) (pool : pools.Contents) (now : ℕ) → StepsLow c (answer_at c s answer pool now)
answer_low c s answer pool now =
    by_if (StepsLow c) (is_fit c c.media.offer answer) (fit_at c s c.media.offer answer pool now) (signal_at c s signals.UnfitAnswer pool now)
    (fit_low c s c.media.offer answer pool now) (signal_low c s signals.UnfitAnswer pool now)

-- a number is left for an offer that comes
abbrev pub HasNumberFor : Call → Input → Type 0
HasNumberFor c (inputs.Offer x method offer) = has_number_left (dialog_of (other x) c) ≡ true
HasNumberFor c input = Unit {0}

at_low : (c : Call) (s : stage.Standing) (input : Input) (pool : pools.Contents) (now : ℕ) → HasNumberFor c input → StepsLow c (step_at c s input pool now)
at_low c s (inputs.Offer x method offer) pool now left = offer_low c s (signals.Offer x method) x offer pool now left
at_low c s (inputs.Provisional status) pool now left = signal_low c s (signals.Provisional status) pool now
at_low c s (inputs.Answer answer) pool now left = answer_low c s answer pool now
at_low c s (inputs.Refusal status) pool now left = signal_low c s (signals.Refusal status) pool now
at_low c s inputs.TimedOut pool now left = signal_low c s signals.TimedOut pool now
at_low c s inputs.Ack pool now left = signal_low c s signals.Ack pool now
at_low c s inputs.Cancel pool now left = signal_low c s signals.Cancel pool now
at_low c s (inputs.Bye end) pool now left = signal_low c s (signals.Bye end) pool now
at_low c s inputs.Limit pool now left = signal_low c s signals.Limit pool now
at_low c s inputs.Repeat pool now left = signal_low c s signals.Repeat pool now
at_low c s inputs.Wait pool now left = signal_low c s signals.Wait pool now
at_low c s inputs.Lifetime pool now left = signal_low c s signals.Lifetime pool now

in_low : (c : Call) (s : Option stage.Standing) (input : Input) (pool : pools.Contents) (now : ℕ) → HasNumberFor c input → StepsLow c (step_in c s input pool now)
in_low c None input pool now left = moved_low c c.standing c.media
in_low c (Some s) input pool now left = at_low c s input pool now left

pub call_low : (c : Call) (input : Input) (pool : pools.Contents) (now : ℕ) → HasNumberFor c input → KeepsLow c (call_row c input pool now).call
unfolding call_row
call_low c input pool now left = in_low c c.standing input pool now left

pub first_call_low : (c : Call) (offer : Description) (pool : pools.Contents) (now : ℕ) → KeepsLow c (first_call_row c offer pool now).call
unfolding first_call_row
first_call_low c offer pool now = moved_low c _ _
