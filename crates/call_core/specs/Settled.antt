-- No offer is open, and each was answered. X is either end.
use Rattle.std.specs.Prelude.{false, [], ◌∷◌, Option, Some, None}
use Rattle.call_core.specs.declared.action.Action.TheVariants.{Bye, Offer, Okay, Trying}
use Rattle.call_core.specs.declared.row.Row.{Row}
use Rattle.call_core.specs.declared.signal.Signal.{Signal}
use Rattle.call_core.specs.declared.signal.Signal.TheVariants as signals
use Rattle.call_core.specs.declared.signal.OfferMethod.TheVariants.{Invite, Update}
use Rattle.call_core.specs.declared.stage.Cancelled.TheVariants.{Never}
use Rattle.call_core.specs.declared.stage.Stage.TheVariants.{Reasked, Updating}
use Rattle.call_media.specs.declared.end.End.TheVariants.{Caller, Callee}
use Rattle.call_media.specs.Ends.{other}
use Rattle.call_core.specs.Rows.{row, gone}

unfoldable pub settled_row : Signal → Option Row
-- INVITE X: 100 X, INVITE Y; Reasked
settled_row (signals.Offer x Invite) = Some (row (Trying x ∷ Offer (other x) Invite ∷ []) x (Reasked false Never))
-- UPDATE X: UPDATE Y; Updating
settled_row (signals.Offer x Update) = Some (row (Offer (other x) Update ∷ []) x Updating)
-- BYE X: 200 X, BYE Y; gone
settled_row (signals.Bye x) = Some (gone (Okay x ∷ Bye (other x) ∷ []))
-- lifetime: BYE to both; gone
settled_row signals.Lifetime = Some (gone (Bye Caller ∷ Bye Callee ∷ []))
settled_row signal = None
