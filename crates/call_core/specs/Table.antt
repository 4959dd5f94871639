-- The table of calls: what is done for a signal at a call's standing, and what comes next; none where the signal has
-- no line.
use Rattle.std.specs.Prelude.{[], ◌∷◌, true, false, Option}
use Rattle.call_core.specs.declared.action.Action.TheVariants.{Offer, Trying}
use Rattle.call_media.specs.declared.end.End.TheVariants.{Caller, Callee}
use Rattle.call_core.specs.declared.row.Row.{Row}
use Rattle.call_core.specs.declared.signal.OfferMethod.TheVariants.{Invite}
use Rattle.call_core.specs.declared.signal.Signal.{Signal}
use Rattle.call_core.specs.declared.stage.Stage.{Stage}
use Rattle.call_core.specs.declared.stage.Stage.TheVariants as stages
use Rattle.call_core.specs.declared.stage.Standing.{Standing}
use Rattle.call_media.specs.declared.end.End.{End}
use Rattle.call_core.specs.Answered.{answered_row}
use Rattle.call_core.specs.Asked.{asked_row}
use Rattle.call_core.specs.Cancelling.{cancelling_row}
use Rattle.call_core.specs.Ending.{ending_row}
use Rattle.call_core.specs.Reasked.{reasked_row}
use Rattle.call_core.specs.Rows.{row}
use Rattle.call_core.specs.Settled.{settled_row}
use Rattle.call_core.specs.Updating.{updating_row}

-- the first offer: 100 X, INVITE Y; Asked
abbrev pub first_row : Row
first_row = row (Trying Caller ∷ Offer Callee Invite ∷ []) Caller (stages.Asked false)

abbrev pub row_in : Stage → End → Signal → Option Row
row_in (stages.Asked rung) x signal = asked_row rung x signal
row_in (stages.Cancelling sent) x signal = cancelling_row sent x signal
row_in (stages.Answered interval) x signal = answered_row false interval x signal
row_in stages.Settled x signal = settled_row signal
row_in (stages.Reasked rung cancelled) x signal = reasked_row rung cancelled x signal
row_in (stages.Reanswered interval) x signal = answered_row true interval x signal
row_in stages.Updating x signal = updating_row x signal
row_in (stages.Ending interval) x signal = ending_row interval x signal

unfoldable pub row_of : Standing → Signal → Option Row
row_of standing signal = row_in standing.stage standing.offerer signal
