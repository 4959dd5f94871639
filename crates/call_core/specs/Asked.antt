-- The first INVITE was passed on, and has no final response. X is the caller, Y the callee.
use Rattle.std.specs.Prelude.{ℕ, ◌==◌, Bool, true, false, List, [], ◌∷◌, Option, Some, None, if◌then◌else◌}
use Rattle.call_core.specs.declared.action.Action.{Action}
use Rattle.call_core.specs.declared.action.Action.TheVariants.{Ack, Answer, Bye, Cancel, Okay, Provisional, PutRows, Refusal, Release, Set, Stop}
use Rattle.call_media.specs.declared.end.End.{End}
use Rattle.call_core.specs.declared.row.Row.{Row}
use Rattle.call_core.specs.declared.signal.Signal.{Signal}
use Rattle.call_core.specs.declared.signal.Signal.TheVariants as signals
use Rattle.call_core.specs.declared.action.CallTimer.TheVariants as timers
use Rattle.call_core.specs.declared.stage.Stage.TheVariants.{Asked, Cancelling, Answered}
use Rattle.call_media.specs.Ends.{other, is_same}
use Rattle.call_core.specs.Passing.{status_passed_on}
use Rattle.call_core.specs.Rows.{row, gone, first_interval, wait_time, ringing_time, short_time}

-- 101 to 199 are passed on, 100 isn't; the first of all sets the limit to `limit` milliseconds
abbrev pub rings : Bool → ℕ → End → ℕ → List Action
rings true limit x status = if status == 100 then [] else Provisional x status ∷ []
rings false limit x status =
    if status == 100 then Set timers.Limit limit ∷ []
    else Provisional x status ∷ Set timers.Limit limit ∷ []

-- the caller leaves: its INVITE is refused, and CANCEL goes to the callee where that has sent a provisional response,
-- and else waits for one (RFC 3261 section 9.1)
abbrev pub given_up : Bool → End → Row
given_up true x = row (Okay x ∷ Refusal x 487 ∷ Cancel (other x) ∷ Set timers.Limit short_time ∷ Release ∷ []) x (Cancelling true)
given_up false x = row (Okay x ∷ Refusal x 487 ∷ Release ∷ []) x (Cancelling false)

unfoldable pub asked_row : Bool → End → Signal → Option Row
-- provisional: passed to X; the ringing limit, at the first one
asked_row rung x (signals.Provisional status) = Some (row (rings rung ringing_time x status) x (Asked true))
-- fit 2xx: ACK Y, rows, 200 X; Answered
asked_row rung x signals.FitAnswer =
    Some (row (Ack (other x) ∷ PutRows ∷ Answer x ∷ Stop timers.Limit ∷ Set timers.Repeat first_interval ∷ Set timers.Wait wait_time ∷ []) x (Answered first_interval))
-- unfit 2xx: ACK Y, BYE Y, 500 X; gone
asked_row rung x signals.UnfitAnswer = Some (gone (Ack (other x) ∷ Bye (other x) ∷ Refusal x 500 ∷ []))
-- refusal: the same to X; gone
asked_row rung x (signals.Refusal status) = Some (gone (Refusal x (status_passed_on status) ∷ []))
-- timer B: 408 X; gone
asked_row rung x signals.TimedOut = Some (gone (Refusal x 408 ∷ []))
-- limit: 480 X, CANCEL Y, release; Cancelling
asked_row true x signals.Limit =
    Some (row (Refusal x 480 ∷ Cancel (other x) ∷ Set timers.Limit short_time ∷ Release ∷ []) x (Cancelling true))
-- CANCEL X: 200 X, 487 X, CANCEL Y, release; Cancelling
asked_row rung x signals.Cancel = Some (given_up rung x)
-- BYE X: the same
asked_row rung x (signals.Bye end) = if is_same end x then Some (given_up rung x) else None
asked_row rung x signal = None
