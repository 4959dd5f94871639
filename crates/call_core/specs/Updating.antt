-- An UPDATE was passed on, and has no final response (RFC 3311). X is the offerer, Y the end across.
use Rattle.std.specs.Prelude.{ℕ, [], ◌∷◌, Option, Some, None, if◌then◌else◌}
use Rattle.call_core.specs.declared.action.Action.TheVariants.{Answer, Bye, Okay, PutRows, Refusal, Release}
use Rattle.call_media.specs.declared.end.End.{End}
use Rattle.call_core.specs.declared.row.Row.{Row}
use Rattle.call_core.specs.declared.signal.Signal.{Signal}
use Rattle.call_core.specs.declared.signal.Signal.TheVariants as signals
use Rattle.call_core.specs.declared.stage.Stage.TheVariants.{Settled, Updating}
use Rattle.call_media.specs.Ends.{other}
use Rattle.call_core.specs.Passing.{status_passed_on}
use Rattle.call_core.specs.Reasked.{has_lost_the_call}
use Rattle.call_core.specs.Rows.{row, gone, outlasts}

-- a final response to X, BYE Y, BYE X; gone
abbrev pub fails : End → ℕ → Row
fails x status = gone (Refusal x status ∷ Bye (other x) ∷ Bye x ∷ [])

-- 408 or 481: the same to X, BYE Y, BYE X; gone. Another refusal: the same to X, release; Settled
abbrev pub update_refused : End → ℕ → Row
update_refused x status =
    if has_lost_the_call status then fails x status
    else row (Refusal x (status_passed_on status) ∷ Release ∷ []) x Settled

unfoldable pub updating_row : End → Signal → Option Row
-- fit 2xx: rows, 200 X; Settled. There is no ACK
updating_row x signals.FitAnswer = Some (row (PutRows ∷ Answer x ∷ []) x Settled)
-- unfit 2xx: 500 X, BYE Y, BYE X; gone
updating_row x signals.UnfitAnswer = Some (fails x 500)
updating_row x (signals.Refusal status) = Some (update_refused x status)
-- timer F: 408 X, BYE Y, BYE X; gone
updating_row x signals.TimedOut = Some (fails x 408)
-- BYE X: 200 X, 487 X, BYE Y; gone. BYE Y: 200 Y, 487 X, BYE X; gone
updating_row x (signals.Bye end) = Some (gone (Okay end ∷ Refusal x 487 ∷ Bye (other end) ∷ []))
-- lifetime: again once the offer is answered
updating_row x signals.Lifetime = Some (outlasts x Updating)
updating_row x signal = None
