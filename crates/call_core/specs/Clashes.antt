-- Offers that cross others (RFC 3261 section 14.2, RFC 3311 section 5.2, RFC 6337).
use Rattle.std.specs.Prelude.{Option, Some, None, if◌then◌else◌}
use Rattle.call_core.specs.declared.clash.Clash.{Clash}
use Rattle.call_core.specs.declared.clash.Clash.TheVariants.{Glare, SecondOffer}
use Rattle.call_media.specs.declared.end.End.{End}
use Rattle.call_core.specs.declared.stage.Stage.{Stage}
use Rattle.call_core.specs.declared.stage.Stage.TheVariants.{Asked, Cancelling, Answered, Settled, Reasked, Reanswered, Updating, Ending}
use Rattle.call_media.specs.Ends.{is_same}

-- an offer of the end whose offer is open is a second one; one of the end across crosses it
abbrev pub crossing : End → End → Option Clash
crossing x end = if is_same end x then Some SecondOffer else Some Glare

-- of X alone
abbrev pub of_offerer : End → End → Clash → Option Clash
of_offerer x end clash = if is_same end x then Some clash else None

-- What an offer of this end meets, be it in an INVITE or in an UPDATE: none where it can be passed on, or where this
-- end has no dialog in which it could be.
unfoldable pub clash_of : Stage → End → End → Option Clash
clash_of (Asked rung) x end = of_offerer x end SecondOffer
clash_of (Cancelling sent) x end = None
clash_of (Answered interval) x end = Some Glare
clash_of Settled x end = None
clash_of (Reasked rung cancelled) x end = crossing x end
clash_of (Reanswered interval) x end = Some Glare
clash_of Updating x end = crossing x end
clash_of (Ending interval) x end = of_offerer x end Glare

-- an UPDATE without an offer of the end whose UPDATE is open
unfoldable pub clash_without_offer : Stage → End → End → Option Clash
clash_without_offer (Asked rung) x end = None
clash_without_offer (Cancelling sent) x end = None
clash_without_offer (Answered interval) x end = None
clash_without_offer Settled x end = None
clash_without_offer (Reasked rung cancelled) x end = None
clash_without_offer (Reanswered interval) x end = None
clash_without_offer Updating x end = of_offerer x end SecondOffer
clash_without_offer (Ending interval) x end = None
