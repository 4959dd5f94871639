-- Responses to the server's own requests that no call takes (RFC 3261 sections 13.2.2.4 and 17.1.1.2).
use Rattle.std.specs.Prelude.{◌≡◌, ℕ, true, false, List, Some, slice_get, ◌⊎◌}
use Rattle.sip_message.specs.declared.message.Parts.{Parts}
use Rattle.sip_message.specs.Words.{tag_text}
use Rattle.calls.specs.Finding.{has_tag}
use Rattle.calls.specs.declared.standing_call.StandingCall.{StandingCall}
use Rattle.call_rules.specs.Responses.{is_open}
use Rattle.call_rules.specs.declared.responses.ResponseRule.{ResponseRule}
use Rattle.call_rules.specs.declared.responses.ResponseRule.TheVariants.{AckAlone, Again, Answer, Fork, Provisional, Refusal, Silent}
use Rattle.call_trace.specs.Listed.{AllOf}

-- the rules by which no call takes a response
abbrev pub IsPassedOver : ResponseRule → Type 0
IsPassedOver Silent = Unit {0}
IsPassedOver (Provisional place status) = ⊥
IsPassedOver (Answer place) = ⊥
IsPassedOver (Again place) = Unit {0}
IsPassedOver Fork = Unit {0}
IsPassedOver AckAlone = Unit {0}
IsPassedOver (Refusal place status) = ⊥

-- the tag is of neither leg of the call
abbrev pub HaveNot : List ℕ → StandingCall → Type 0
HaveNot tag c = has_tag tag c ≡ false

-- a current call has the request's tag, and it is not its open offer
pub record IsClosed (calls : List StandingCall) (asked : Parts) : Type 0 where
  pub place : ℕ
  pub call : StandingCall
  pub there : slice_get calls place ≡ Some call
  pub tag : has_tag (tag_text asked.from.params) call ≡ true
  pub closed : is_open asked call ≡ false

-- no call waits for the final response to a request with these parts: none has its tag, or one that does not wait for
-- it
abbrev pub IsLate : List StandingCall → Parts → Type 0
IsLate calls asked = AllOf (HaveNot (tag_text asked.from.params)) calls ⊎ IsClosed calls asked
