-- The transactions in which the offers came for whose answers the calls wait (RFC 3261 sections 13.3.1 and 14.2, RFC
-- 3311 section 5.2).
use Rattle.std.specs.Prelude.{◌≡◌, true, List, Option, Some}
use Rattle.std.specs.List.{All}
use Rattle.call_rules.specs.Speaking.{may_offer}
use Rattle.calls.specs.declared.standing_call.StandingCall.{StandingCall}
use Rattle.plans.specs.Office.{Office}
use Rattle.message_laws.specs.Askers.{waits_for}
use Rattle.transactions.specs.Slots.{at}
use Rattle.transactions.specs.declared.transaction.Transaction.{Transaction}

-- it is live, is of an INVITE or UPDATE, and has the number that the call keeps for its offer
pub record HasAsker (slots : List (Option Transaction)) (c : StandingCall) : Type 0 where
  pub transaction : Transaction
  pub stands : at slots c.asked.id ≡ Some transaction
  pub offers : may_offer transaction.parts ≡ true
  pub number : transaction.parts.cseq.number ≡ c.asked.number

-- while the call waits for an answer
abbrev pub HasAskerIf : List (Option Transaction) → StandingCall → Type 0
HasAskerIf slots c = waits_for c ≡ true → HasAsker slots c

-- of each live call
abbrev pub KnowsAsked : Office → Type 0
KnowsAsked s = All (HasAskerIf s.table.slots) s.calls.calls
