-- Why what reached a call is refused.
use Rattle.std.specs.Prelude.{◌≡◌, ◌<◌, ℕ, true, false, length, Option, Some, None}
use Rattle.port_pool.specs.Holdings.{free_pairs}
use Rattle.port_pool.specs.Pool.{Contents}
use Rattle.sdp.specs.declared.description.Description.{Description}
use Rattle.offer_answer.specs.declared.fault.OfferFault.{OfferFault}
use Rattle.offer_answer.specs.Checks.{offer_fault}
use Rattle.call_media.specs.declared.end.End.{End}
use Rattle.call_media.specs.declared.refusal.OfferRefusal.{OfferRefusal}
use Rattle.call_media.specs.declared.refusal.OfferRefusal.TheVariants as media
use Rattle.call_media.specs.declared.state.CallMedia.{CallMedia}
use Rattle.call_media.specs.Ends.{other}
use Rattle.call_media.specs.Offers.{HasPairs, fresh_needed}
use Rattle.call_media.specs.Sessions.{previous}
use Rattle.call_core.specs.declared.call.Call.{Call}
use Rattle.call_core.specs.declared.input.Input.{Input}
use Rattle.call_core.specs.declared.input.Input.TheVariants as inputs
use Rattle.call_core.specs.declared.refusal.CallRefusal.{CallRefusal}
use Rattle.call_core.specs.declared.refusal.CallRefusal.TheVariants.{OutOfMemory, Crosses, Undescribed, Unfit, NoPorts, NumberAtItsEnd}
use Rattle.call_core.specs.declared.signal.OfferMethod.{OfferMethod}
use Rattle.call_core.specs.declared.signal.Signal.TheVariants as signals
use Rattle.call_core.specs.declared.stage.Standing.{Standing}
use Rattle.call_core.specs.Calls.{clash_in, dialog_of, has_number_left}
use Rattle.call_core.specs.Clashes.{clash_of}
use Rattle.call_core.specs.Plans.{IfLine}
use Rattle.call_core.specs.Table.{row_of}

-- the same, of a call
abbrev pub refusal_of : OfferRefusal → CallRefusal
refusal_of media.OutOfMemory = OutOfMemory
refusal_of (media.Unfit fault) = Unfit fault
refusal_of media.NoPorts = NoPorts

-- RFC 3264 doesn't let the end say this after what it gave before, or the relay doesn't carry it
abbrev pub IsFaultOf : CallMedia → End → Option Description → OfferFault → Type 0
IsFaultOf m x None fault = ⊥
IsFaultOf m x (Some offer) fault = offer_fault m.range offer (previous x m.session) ≡ Some fault

-- it may say so, but too few pairs are free for the offer's media
abbrev pub LacksPairs : CallMedia → Contents → End → Option Description → ℕ → Type 0
LacksPairs m pool x None now = ⊥
LacksPairs m pool x (Some offer) now = (offer_fault m.range offer (previous x m.session) ≡ None) × (length (free_pairs now pool.holdings) < fresh_needed m x offer)

-- RFC 3264 lets the end say this after what it gave before, the relay carries it, and enough pairs are free
abbrev pub MayPass : CallMedia → Contents → End → Description → ℕ → Type 0
MayPass m pool x offer now = (offer_fault m.range offer (previous x m.session) ≡ None) × HasPairs m pool x offer now

abbrev pub MayPassIfAny : CallMedia → Contents → End → Option Description → ℕ → Type 0
MayPassIfAny m pool x None now = ⊥
MayPassIfAny m pool x (Some offer) now = MayPass m pool x offer now

-- why the first offer of a call is not passed on
abbrev pub RefusesFirst : CallMedia → Contents → End → Option Description → ℕ → CallRefusal → Type 0
RefusesFirst m pool x offer now OutOfMemory = Unit {0}
RefusesFirst m pool x offer now (Crosses clash) = ⊥
RefusesFirst m pool x offer now Undescribed = ⊥
RefusesFirst m pool x offer now (Unfit fault) = IsFaultOf m x offer fault
RefusesFirst m pool x offer now NoPorts = LacksPairs m pool x offer now
RefusesFirst m pool x offer now NumberAtItsEnd = ⊥

-- why an offer inside a call is not passed on
abbrev pub RefusesLater : Call → Contents → End → Option Description → ℕ → CallRefusal → Type 0
RefusesLater c pool x offer now OutOfMemory = Unit {0}
RefusesLater c pool x offer now (Crosses clash) = clash_in c.standing x ≡ Some clash
RefusesLater c pool x offer now Undescribed = (clash_in c.standing x ≡ None) × (offer ≡ None)
RefusesLater c pool x offer now (Unfit fault) = (clash_in c.standing x ≡ None) × IsFaultOf c.media x offer fault
RefusesLater c pool x offer now NoPorts = (clash_in c.standing x ≡ None) × LacksPairs c.media pool x offer now
RefusesLater c pool x offer now NumberAtItsEnd =
    (clash_in c.standing x ≡ None) × MayPassIfAny c.media pool x offer now × (has_number_left (dialog_of (other x) c) ≡ false)

abbrev pub IsNoMemory : CallRefusal → Type 0
IsNoMemory OutOfMemory = Unit {0}
IsNoMemory (Crosses clash) = ⊥
IsNoMemory Undescribed = ⊥
IsNoMemory (Unfit fault) = ⊥
IsNoMemory NoPorts = ⊥
IsNoMemory NumberAtItsEnd = ⊥

-- only offers are refused, unless memory ran out
abbrev pub RefusesInput : Call → Contents → Input → ℕ → CallRefusal → Type 0
RefusesInput c pool (inputs.Offer x method offer) now refusal = RefusesLater c pool x offer now refusal
RefusesInput c pool (inputs.Provisional status) now refusal = IsNoMemory refusal
RefusesInput c pool (inputs.Answer answer) now refusal = IsNoMemory refusal
RefusesInput c pool (inputs.Refusal status) now refusal = IsNoMemory refusal
RefusesInput c pool inputs.TimedOut now refusal = IsNoMemory refusal
RefusesInput c pool inputs.Ack now refusal = IsNoMemory refusal
RefusesInput c pool inputs.Cancel now refusal = IsNoMemory refusal
RefusesInput c pool (inputs.Bye end) now refusal = IsNoMemory refusal
RefusesInput c pool inputs.Limit now refusal = IsNoMemory refusal
RefusesInput c pool inputs.Repeat now refusal = IsNoMemory refusal
RefusesInput c pool inputs.Wait now refusal = IsNoMemory refusal
RefusesInput c pool inputs.Lifetime now refusal = IsNoMemory refusal

-- ---- what is not refused

-- what can be passed on: it has a description that may pass, and a number is left
abbrev pub IsPassable : Call → Contents → End → Option Description → ℕ → Type 0
IsPassable c pool x offer now = MayPassIfAny c.media pool x offer now × (has_number_left (dialog_of (other x) c) ≡ true)

-- no other offer crosses this one; where it has a line, it can be passed on
abbrev pub MayOffer : Call → Standing → Contents → End → OfferMethod → Option Description → ℕ → Type 0
MayOffer c s pool x method offer now =
    (clash_of s.stage s.offerer x ≡ None) × IfLine (λ row. IsPassable c pool x offer now) (row_of s (signals.Offer x method))

abbrev pub MayTake : Call → Standing → Contents → Input → ℕ → Type 0
MayTake c s pool (inputs.Offer x method offer) now = MayOffer c s pool x method offer now
MayTake c s pool (inputs.Provisional status) now = Unit {0}
MayTake c s pool (inputs.Answer answer) now = Unit {0}
MayTake c s pool (inputs.Refusal status) now = Unit {0}
MayTake c s pool inputs.TimedOut now = Unit {0}
MayTake c s pool inputs.Ack now = Unit {0}
MayTake c s pool inputs.Cancel now = Unit {0}
MayTake c s pool (inputs.Bye end) now = Unit {0}
MayTake c s pool inputs.Limit now = Unit {0}
MayTake c s pool inputs.Repeat now = Unit {0}
MayTake c s pool inputs.Wait now = Unit {0}
MayTake c s pool inputs.Lifetime now = Unit {0}

abbrev pub MayTakeIn : Call → Option Standing → Contents → Input → ℕ → Type 0
MayTakeIn c None pool input now = Unit {0}
MayTakeIn c (Some s) pool input now = MayTake c s pool input now
