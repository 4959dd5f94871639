-- The first INVITE was given up, and has no final response. X is the caller, Y the callee.
use Rattle.std.specs.Prelude.{Bool, true, false, [], ◌∷◌, Option, Some, None}
use Rattle.call_core.specs.declared.action.Action.TheVariants.{Abandon, Ack, Bye, Cancel, Set}
use Rattle.call_media.specs.declared.end.End.{End}
use Rattle.call_core.specs.declared.row.Row.{Row}
use Rattle.call_core.specs.declared.signal.Signal.{Signal}
use Rattle.call_core.specs.declared.signal.Signal.TheVariants as signals
use Rattle.call_core.specs.declared.action.CallTimer.TheVariants as timers
use Rattle.call_core.specs.declared.stage.Stage.TheVariants.{Cancelling}
use Rattle.call_media.specs.Ends.{other}
use Rattle.call_core.specs.Rows.{row, gone, short_time}

unfoldable pub cancelling_row : Bool → End → Signal → Option Row
-- provisional: the CANCEL that waits for it
cancelling_row false x (signals.Provisional status) = Some (row (Cancel (other x) ∷ Set timers.Limit short_time ∷ []) x (Cancelling true))
cancelling_row true x (signals.Provisional status) = Some (row [] x (Cancelling true))
-- 2xx: ACK Y, BYE Y; gone
cancelling_row sent x signals.FitAnswer = Some (gone (Ack (other x) ∷ Bye (other x) ∷ []))
cancelling_row sent x signals.UnfitAnswer = Some (gone (Ack (other x) ∷ Bye (other x) ∷ []))
-- refusal, timer B, limit: gone
cancelling_row sent x (signals.Refusal status) = Some (gone [])
cancelling_row sent x signals.TimedOut = Some (gone [])
cancelling_row true x signals.Limit = Some (gone (Abandon (other x) ∷ []))
cancelling_row sent x signal = None
