-- Y left while the ACK of the 200 to X had not come: X is sent BYE after its ACK (RFC 3261 section 15).
use Rattle.std.specs.Prelude.{ℕ, [], ◌∷◌, Option, Some, None, if◌then◌else◌}
use Rattle.call_core.specs.declared.action.Action.TheVariants.{AnswerAgain, Bye, Okay, Set}
use Rattle.call_media.specs.declared.end.End.{End}
use Rattle.call_core.specs.declared.row.Row.{Row}
use Rattle.call_core.specs.declared.signal.Signal.{Signal}
use Rattle.call_core.specs.declared.signal.Signal.TheVariants as signals
use Rattle.call_core.specs.declared.action.CallTimer.TheVariants as timers
use Rattle.call_core.specs.declared.stage.Stage.TheVariants.{Ending}
use Rattle.call_media.specs.Ends.{is_same}
use Rattle.call_core.specs.Rows.{row, gone, twice_to_t2}

unfoldable pub ending_row : ℕ → End → Signal → Option Row
-- ACK X, wait: BYE X; gone
ending_row interval x signals.Ack = Some (gone (Bye x ∷ []))
ending_row interval x signals.Wait = Some (gone (Bye x ∷ []))
-- repeat: 200 X again
ending_row interval x signals.Repeat = Some (row (AnswerAgain x ∷ Set timers.Repeat (twice_to_t2 interval) ∷ []) x (Ending (twice_to_t2 interval)))
-- BYE X: 200 X; gone
ending_row interval x (signals.Bye end) = if is_same end x then Some (gone (Okay x ∷ [])) else None
ending_row interval x signal = None
