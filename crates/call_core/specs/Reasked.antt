-- An INVITE inside the call was passed on, and has no final response. X is the offerer, Y the end across.
use Rattle.std.specs.Prelude.{ℕ, ◌==◌, ◌||◌, Bool, true, false, [], ◌∷◌, ◌++◌, Option, Some, None, if◌then◌else◌}
use Rattle.call_core.specs.declared.action.Action.TheVariants.{Abandon, Ack, Answer, Bye, Cancel, Okay, PutRows, Refusal, Release, Set, Stop}
use Rattle.call_media.specs.declared.end.End.{End}
use Rattle.call_core.specs.declared.row.Row.{Row}
use Rattle.call_core.specs.declared.signal.Signal.{Signal}
use Rattle.call_core.specs.declared.signal.Signal.TheVariants as signals
use Rattle.call_core.specs.declared.action.CallTimer.TheVariants as timers
use Rattle.call_core.specs.declared.stage.Cancelled.{Cancelled}
use Rattle.call_core.specs.declared.stage.Cancelled.TheVariants.{Never, Waits, PassedOn}
use Rattle.call_core.specs.declared.stage.Stage.TheVariants.{Settled, Reasked, Reanswered}
use Rattle.call_core.specs.Asked.{rings}
use Rattle.call_media.specs.Ends.{other}
use Rattle.call_core.specs.Passing.{status_passed_on}
use Rattle.call_core.specs.Rows.{row, gone, outlasts, first_interval, wait_time, short_time}

-- the end across knows of no such call any more, or doesn't answer (RFC 3261 section 12.2.1.2)
abbrev pub has_lost_the_call : ℕ → Bool
has_lost_the_call status = status == 408 || status == 481

-- provisional: as for a first INVITE, with the shorter limit; and after it the CANCEL that waits for it
abbrev pub rings_inside : Bool → Cancelled → End → ℕ → Row
rings_inside rung Never x status = row (rings rung short_time x status) x (Reasked true Never)
rings_inside rung Waits x status = row (rings true short_time x status ++ Cancel (other x) ∷ Set timers.Limit short_time ∷ []) x (Reasked true PassedOn)
rings_inside rung PassedOn x status = row (rings rung short_time x status) x (Reasked true PassedOn)

-- CANCEL X: 200 X, CANCEL Y; it goes once, and not before a provisional response
abbrev pub cancelled_inside : Bool → Cancelled → End → Row
cancelled_inside true Never x = row (Okay x ∷ Cancel (other x) ∷ Set timers.Limit short_time ∷ []) x (Reasked true PassedOn)
cancelled_inside false Never x = row (Okay x ∷ []) x (Reasked false Waits)
cancelled_inside rung Waits x = row (Okay x ∷ []) x (Reasked rung Waits)
cancelled_inside rung PassedOn x = row (Okay x ∷ []) x (Reasked rung PassedOn)

-- 408 or 481: the same to X, BYE Y, BYE X; gone. Another refusal: the same to X, release; Settled
abbrev pub refused_inside : End → ℕ → Row
refused_inside x status =
    if has_lost_the_call status then gone (Refusal x status ∷ Bye (other x) ∷ Bye x ∷ [])
    else row (Refusal x (status_passed_on status) ∷ Release ∷ Stop timers.Limit ∷ []) x Settled

-- BYE X: 200 X, 487 X, BYE Y; gone. BYE Y: 200 Y, 487 X, BYE X; gone
abbrev pub left_inside : End → End → Row
left_inside end x = gone (Okay end ∷ Refusal x 487 ∷ Bye (other end) ∷ Abandon (other x) ∷ [])

unfoldable pub reasked_row : Bool → Cancelled → End → Signal → Option Row
reasked_row rung cancelled x (signals.Provisional status) = Some (rings_inside rung cancelled x status)
-- fit 2xx: ACK Y, rows, 200 X; Reanswered
reasked_row rung cancelled x signals.FitAnswer =
    Some (row (Ack (other x) ∷ PutRows ∷ Answer x ∷ Stop timers.Limit ∷ Set timers.Repeat first_interval ∷ Set timers.Wait wait_time ∷ []) x (Reanswered first_interval))
-- unfit 2xx: ACK Y, BYE Y, 500 X, BYE X; gone
reasked_row rung cancelled x signals.UnfitAnswer = Some (gone (Ack (other x) ∷ Bye (other x) ∷ Refusal x 500 ∷ Bye x ∷ []))
reasked_row rung cancelled x (signals.Refusal status) = Some (refused_inside x status)
-- timer B, limit: 408 X, BYE Y, BYE X; gone
reasked_row rung cancelled x signals.TimedOut = Some (gone (Refusal x 408 ∷ Bye (other x) ∷ Bye x ∷ []))
reasked_row true cancelled x signals.Limit = Some (gone (Refusal x 408 ∷ Bye (other x) ∷ Bye x ∷ Abandon (other x) ∷ []))
-- lifetime: again once the offer is answered
reasked_row rung cancelled x signals.Lifetime = Some (outlasts x (Reasked rung cancelled))
reasked_row rung cancelled x signals.Cancel = Some (cancelled_inside rung cancelled x)
reasked_row rung cancelled x (signals.Bye end) = Some (left_inside end x)
reasked_row rung cancelled x signal = None
