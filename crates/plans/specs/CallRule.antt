-- What a call does for a request that began a transaction, with what was found for it. A place is that of the call on
-- the list.
use Rattle.std.specs.Prelude.{◌≡◌, ℕ, List, slice_get, None, Some}
use Rattle.sip_uri.specs.declared.uri.Uri.{Uri}
use Rattle.sip_message.specs.declared.message.Request.{Request}
use Rattle.call_media.specs.declared.end.End.{End}
use Rattle.call_rules.specs.Content.{content_rule}
use Rattle.calls.specs.declared.standing_call.StandingCall.{StandingCall}
use Rattle.plans.specs.declared.rule.CallRule.{CallRule as LentRule}
use Rattle.plans.specs.declared.rule.CallRule.TheVariants as lent

pub data CallRule : Type 0 where
  -- a first INVITE: the callee is asked where it is bound
  Begins : Uri → CallRule
  -- a CANCEL of the call's offer
  Cancels : ℕ → CallRule
  -- a BYE of this end
  Leaves : ℕ → End → CallRule
  -- an offer of this end inside this call
  Offers : ℕ → End → StandingCall → CallRule
  -- an UPDATE of this end of this call without an offer
  Refreshes : ℕ → End → StandingCall → CallRule

-- where what was found is borrowed: it is the same, wherever it is
abbrev pub call_rule : LentRule → CallRule
call_rule (lent.Begins to) = Begins to.now
call_rule (lent.Cancels place) = Cancels place
call_rule (lent.Leaves place end) = Leaves place end
call_rule (lent.Offers place end call) = Offers place end call.now
call_rule (lent.Refreshes place end call) = Refreshes place end call.now

-- it is for this request: the call that it hands on is at its place, and the type and the coding of the body that a
-- call begins with are taken
abbrev pub IsFor : List StandingCall → Request → CallRule → Type 0
IsFor standing r (Begins to) = content_rule r.headers ≡ None
IsFor standing r (Cancels place) = Unit {0}
IsFor standing r (Leaves place end) = Unit {0}
IsFor standing r (Offers place end call) = slice_get standing place ≡ Some call
IsFor standing r (Refreshes place end call) = slice_get standing place ≡ Some call
