-- X was sent a 200 with the answer, whose ACK has not come.
use Rattle.std.specs.Prelude.{ℕ, Bool, true, false, [], ◌∷◌, Option, Some, None, if◌then◌else◌}
use Rattle.call_core.specs.declared.action.Action.TheVariants.{AnswerAgain, Bye, Okay, RemoveRows, Set, Stop}
use Rattle.call_media.specs.declared.end.End.{End}
use Rattle.call_core.specs.declared.row.Row.{Row}
use Rattle.call_core.specs.declared.signal.Signal.{Signal}
use Rattle.call_core.specs.declared.signal.Signal.TheVariants as signals
use Rattle.call_core.specs.declared.action.CallTimer.TheVariants as timers
use Rattle.call_core.specs.declared.stage.Stage.{Stage}
use Rattle.call_core.specs.declared.stage.Stage.TheVariants.{Answered, Settled, Reanswered, Ending}
use Rattle.call_media.specs.Ends.{other, is_same}
use Rattle.call_core.specs.Rows.{row, gone, outlasts, twice_to_t2}

-- of the first INVITE, or of one inside the call
abbrev pub waiting : Bool → ℕ → Stage
waiting false interval = Answered interval
waiting true interval = Reanswered interval

unfoldable pub answered_row : Bool → ℕ → End → Signal → Option Row
-- ACK X: settled
answered_row inside interval x signals.Ack = Some (row (Stop timers.Repeat ∷ Stop timers.Wait ∷ []) x Settled)
-- repeat: 200 X again
answered_row inside interval x signals.Repeat =
    Some (row (AnswerAgain x ∷ Set timers.Repeat (twice_to_t2 interval) ∷ []) x (waiting inside (twice_to_t2 interval)))
-- wait: BYE X, BYE Y; gone
answered_row inside interval x signals.Wait = Some (gone (Bye x ∷ Bye (other x) ∷ []))
-- lifetime: again once the ACK has come
answered_row inside interval x signals.Lifetime = Some (outlasts x (waiting inside interval))
-- BYE X: 200 X, BYE Y; gone. BYE Y: 200 Y, pairs free, rows gone; Ending
answered_row inside interval x (signals.Bye end) =
    if is_same end x then Some (gone (Okay x ∷ Bye (other x) ∷ []))
    else Some (row (Okay (other x) ∷ RemoveRows ∷ []) x (Ending interval))
answered_row inside interval x signal = None
