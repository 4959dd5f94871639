-- What a step does for a refusal: the ACK of its transaction, and what its call says.
use Rattle.std.specs.Prelude.{◌≡◌, ℕ, List, [], ◌∷◌}
use Rattle.sip_message.specs.declared.message.Parts.{Parts}
use Rattle.sip_message.specs.declared.message.Response.{Response}
use Rattle.transaction_machines.specs.declared.state.State.{State}
use Rattle.transaction_machines.specs.declared.state.State.TheVariants.{InviteClient, InviteServer, OtherClient, OtherServer}
use Rattle.transactions.specs.declared.transaction.Transaction.{Transaction}
use Rattle.call_rules.specs.Responses.{response_rule}
use Rattle.call_rules.specs.declared.responses.ResponseRule.TheVariants as rule
use Rattle.event_rows.specs.State.{Contents}
use Rattle.step_laws.specs.Sending.{Going, acks}

-- the response is a refusal for which the call at this place waits
abbrev pub IsRefusal : Contents → Transaction → Response → ℕ → Type 0
IsRefusal s asked r place = response_rule s.calls.calls asked.parts r ≡ rule.Refusal place r.status

-- the transaction of an INVITE sends the ACK to its refusal, and that of another request none (RFC 3261 sections
-- 17.1.1.3 and 17.1.2)
abbrev pub acks_of : State → Transaction → Parts → List Going
acks_of (InviteClient state) asked response = acks asked response ∷ []
acks_of (InviteServer state) asked response = []
acks_of (OtherClient state) asked response = []
acks_of (OtherServer state) asked response = []

abbrev pub own_acks : Transaction → Response → List Going
own_acks asked r = acks_of asked.state asked r.parts
