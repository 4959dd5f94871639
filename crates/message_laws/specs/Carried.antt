-- What the server's own INVITEs and UPDATEs carry, and the offers that its calls keep (RFC 3264 section 4).
use Rattle.std.specs.Prelude.{◌≡◌, Bool, true, false, List, Option, Some, None}
use Rattle.std.specs.List.{All}
use Rattle.sip_message.specs.declared.message.Message.TheVariants as Kinds
use Rattle.sip_message.specs.declared.message.Request.{Request}
use Rattle.sip_writing.specs.Writing.{message_text}
use Rattle.sdp.specs.declared.description.Description.{Description}
use Rattle.sdp.specs.Writing.{description_text}
use Rattle.dialogs.specs.declared.state.Dialog.{Dialog}
use Rattle.transactions.specs.declared.transaction.Transaction.{Transaction}
use Rattle.call_media.specs.declared.session.OpenOffer.{OpenOffer}
use Rattle.call_core.specs.Calls.{dialog_of, holds_in}
use Rattle.call_core.specs.declared.stage.Stage.{Stage}
use Rattle.call_core.specs.declared.stage.Stage.TheVariants.{Asked, Cancelling, Answered, Settled, Reasked, Reanswered, Updating, Ending}
use Rattle.call_core.specs.declared.stage.Standing.{Standing}
use Rattle.calls.specs.declared.standing_call.StandingCall.{StandingCall}
use Rattle.calls.specs.Finding.{has_tag}
use Rattle.call_rules.specs.Responses.{asked_end, is_open}
use Rattle.plans.specs.Office.{Office}
use Rattle.message_laws.specs.Waiting.{IsOffering, from_tag}

-- its bytes are those of a request with its values and this description
pub record Carries (t : Transaction) (description : Description) : Type 0 where
  pub request : Request
  pub sent : t.last ≡ Some (message_text (Kinds.Request request))
  pub parts : request.parts ≡ t.parts
  pub body : request.body ≡ description_text description

-- the open offer, where there is one, is what goes across with it
abbrev pub CarriesIf : Transaction → Option OpenOffer → Type 0
CarriesIf t None = Unit {0}
CarriesIf t (Some offer) = Carries t offer.offer_sent

-- the first INVITE was passed on, and has no final response
abbrev pub awaits_callee : Stage → Bool
awaits_callee (Asked rung) = true
awaits_callee (Cancelling sent) = false
awaits_callee (Answered interval) = false
awaits_callee Settled = false
awaits_callee (Reasked rung cancelled) = false
awaits_callee (Reanswered interval) = false
awaits_callee Updating = false
awaits_callee (Ending interval) = false

-- there is a dialog with the end that is asked, except for the first INVITE
abbrev pub has_leg : Option Dialog → Option Standing → Bool
has_leg None standing = holds_in awaits_callee standing
has_leg (Some d) standing = true

-- where this request is the open offer of the call that its tag names, it carries the offer that the call keeps
abbrev pub CarriesOpen : Transaction → StandingCall → Type 0
CarriesOpen t c = has_tag (from_tag t) c ≡ true → is_open t.parts c ≡ true → has_leg (dialog_of (asked_end t.parts c) c.call) c.call.standing ≡ true → CarriesIf t c.call.media.offer

-- of all INVITEs and UPDATEs of these
abbrev pub CarriesIfOffering : List StandingCall → Transaction → Type 0
CarriesIfOffering calls t = IsOffering t → All (CarriesOpen t) calls

abbrev pub KnowsCarried : Office → List Transaction → Type 0
KnowsCarried s begun = All (CarriesIfOffering s.calls.calls) begun
