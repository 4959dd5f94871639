-- A response to the request that carried the open offer of a call.
use Rattle.std.specs.Prelude.{◌≡◌, ℕ, true, Some}
use Rattle.sip_message.specs.declared.message.Response.{Response}
use Rattle.transactions.specs.declared.transaction.Transaction.{Transaction}
use Rattle.transactions.specs.Slots.{at, is_answered}
use Rattle.calls.specs.declared.standing_call.StandingCall.{StandingCall}
use Rattle.calls.specs.Finding.{has_tag}
use Rattle.call_rules.specs.Responses.{is_open}
use Rattle.call_rules.specs.Speaking.{may_offer}
use Rattle.plans.specs.Office.{Office}
use Rattle.message_laws.specs.Waiting.{from_tag}

-- it is one to the INVITE or UPDATE of this transaction (RFC 3261 section 17.1.3), for whose final response the call
-- waits
pub record RespondsToOffer (s : Office) (r : Response) (id : ℕ) (x : Transaction) (c : StandingCall) : Type 0 where
  pub there : at s.table.slots id ≡ Some x
  pub answers : is_answered r.parts (Some x) ≡ true
  pub offers : may_offer x.parts ≡ true
  pub tag : has_tag (from_tag x) c ≡ true
  pub opens : is_open x.parts c ≡ true
