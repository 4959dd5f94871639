-- The requests of the server's own for whose final response its calls wait (RFC 3261 sections 12.2.1.1 and 13.2.2).
use Rattle.std.specs.Prelude.{◌≡◌, true, List, [], ◌∷◌, Some, ◌⊎◌}
use Rattle.std.specs.List.{All}
use Rattle.transactions.specs.declared.transaction.Transaction.{Transaction}
use Rattle.call_media.specs.Ends.{other}
use Rattle.call_media.specs.declared.session.OpenOffer.{OpenOffer}
use Rattle.call_core.specs.Calls.{awaits_answer, dialog_of}
use Rattle.call_core.specs.declared.stage.Standing.{Standing}
use Rattle.calls.specs.Finding.{has_tag}
use Rattle.calls.specs.declared.standing_call.StandingCall.{StandingCall}
use Rattle.call_rules.specs.Responses.{awaits_final, is_open}
use Rattle.plans.specs.Office.{Office}
use Rattle.message_laws.specs.Carried.{Carries, CarriesIf, has_leg}
use Rattle.message_laws.specs.Waiting.{IsOffering, from_tag}

-- this transaction is one of them
abbrev pub IsAmong : List Transaction → Transaction → Type 0
IsAmong [] t = ⊥
IsAmong (u ∷ us) t = (u ≡ t) ⊎ IsAmong us t

-- it is the open offer of this call, and carries the offer that the call keeps
pub record IsOpenRequest (c : StandingCall) (t : Transaction) : Type 0 where
  pub offers : IsOffering t
  pub tag : has_tag (from_tag t) c ≡ true
  pub opens : is_open t.parts c ≡ true
  pub carries : CarriesIf t c.call.media.offer

-- where the call waits for a final response of an end with which it has a dialog, or of the callee to its first INVITE,
-- it waits for that to one of these
abbrev pub HasRequest : List Transaction → StandingCall → Type 0
HasRequest begun c = (n : Standing) → c.call.standing ≡ Some n → awaits_final n.stage ≡ true → has_leg (dialog_of (other n.offerer) c.call) (Some n) ≡ true
    → (t : Transaction) × IsAmong begun t × IsOpenRequest c t

-- of all requests that the server began
abbrev pub KnowsRequests : Office → List Transaction → Type 0
KnowsRequests s begun = All (HasRequest begun) s.calls.calls

-- where it waits for an answer, whatever its dialogs
abbrev pub HasAsked : List Transaction → StandingCall → Type 0
HasAsked begun c = (n : Standing) → c.call.standing ≡ Some n → awaits_answer n.stage ≡ true → (t : Transaction) × IsAmong begun t × IsOpenRequest c t

-- and the call keeps the offer that this request carries
pub record CarriesOffer (begun : List Transaction) (c : StandingCall) : Type 0 where
  pub request : Transaction
  pub offer : OpenOffer
  pub began : IsAmong begun request
  pub opens : IsOpenRequest c request
  pub kept : c.call.media.offer ≡ Some offer
  pub carries : Carries request offer.offer_sent

abbrev pub HasOffered : List Transaction → StandingCall → Type 0
HasOffered begun c = (n : Standing) → c.call.standing ≡ Some n → awaits_answer n.stage ≡ true → CarriesOffer begun c
