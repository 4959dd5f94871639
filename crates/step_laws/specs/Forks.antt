-- What a step does for a 2xx that no call takes.
use Rattle.std.specs.Prelude.{◌≡◌, Some}
use Rattle.sip_uri.specs.declared.uri.Uri.{Uri}
use Rattle.sip_message.specs.Contact.{contacts_of}
use Rattle.sip_message.specs.declared.message.Response.{Response}
use Rattle.dialogs.specs.Making.{reached_at}
use Rattle.call_rules.specs.Responses.{response_rule}
use Rattle.call_rules.specs.declared.responses.ResponseRule.{ResponseRule}
use Rattle.event_rows.specs.State.{Contents}
use Rattle.transactions.specs.declared.transaction.Transaction.{Transaction}

-- the response falls under this rule, and says where its sender is reached (RFC 3261 sections 12.1.2 and 13.2.2.4)
pub record IsLeftOver (s : Contents) (asked : Transaction) (r : Response) (rule : ResponseRule) (target : Uri) : Type 0 where
  pub rule_is : response_rule s.calls.calls asked.parts r ≡ rule
  pub reached : reached_at (contacts_of r.headers) ≡ Some target
