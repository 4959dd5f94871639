-- What a request in a dialog is to the live calls. The place is that of the call, and the end is the one that sent
-- the request.
use Rattle.std.specs.Prelude.{◌≡◌, ℕ, List, slice_get, Some}
use Rattle.call_media.specs.declared.end.End.{End}
use Rattle.calls.specs.declared.standing_call.StandingCall.{StandingCall}
use Rattle.call_rules.specs.Places.{StandsAt}
use Rattle.call_rules.specs.declared.requests.DialogRule.{DialogRule as LentRule}
use Rattle.call_rules.specs.declared.requests.DialogRule.TheVariants as lent

pub data DialogRule : Type 0 where
  -- it is in no dialog, or its end has left the call
  NoDialog : DialogRule
  -- its number is not above that of the last request
  OldNumber : ℕ → End → DialogRule
  -- a BYE
  Leaves : ℕ → End → DialogRule
  -- an INVITE, or an UPDATE with a body
  Offers : ℕ → End → DialogRule
  -- any other request
  Plain : ℕ → End → DialogRule

-- ---- the rule that is given, which lends the call

abbrev pub dialog_rule_of : LentRule → DialogRule
dialog_rule_of lent.NoDialog = NoDialog
dialog_rule_of (lent.OldNumber place end) = OldNumber place end
dialog_rule_of (lent.Leaves place end) = Leaves place end
dialog_rule_of (lent.Offers place end call) = Offers place end
dialog_rule_of (lent.Plain place end call) = Plain place end

-- a call is at the place that it names, and is the one that it borrows
abbrev pub NamesCall : List StandingCall → LentRule → Type 0
NamesCall standing lent.NoDialog = Unit {0}
NamesCall standing (lent.OldNumber place end) = StandsAt standing place
NamesCall standing (lent.Leaves place end) = StandsAt standing place
NamesCall standing (lent.Offers place end call) = slice_get standing place ≡ Some call.now
NamesCall standing (lent.Plain place end call) = slice_get standing place ≡ Some call.now
