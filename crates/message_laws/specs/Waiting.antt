-- Which requests of the server's own wait for a final response, and the calls that wait for it.
use Rattle.std.specs.Prelude.{◌≡◌, ℕ, ◌≤◌, Bool, true, false, List, Option, Some, None}
use Rattle.std.specs.List.{All}
use Rattle.sip_message.specs.Words.{tag_text}
use Rattle.dialogs.specs.declared.state.Dialog.{Dialog}
use Rattle.dialogs.specs.Counting.{last_number}
use Rattle.transaction_machines.specs.declared.invite_client.InviteClient.TheVariants as invites
use Rattle.transaction_machines.specs.declared.other_client.OtherClient.TheVariants as others
use Rattle.transaction_machines.specs.declared.state.State.{State}
use Rattle.transaction_machines.specs.declared.state.State.TheVariants.{InviteClient, InviteServer, OtherClient, OtherServer}
use Rattle.transaction_machines.specs.Machines.{is_server}
use Rattle.transactions.specs.declared.transaction.Transaction.{Transaction}
use Rattle.transactions.specs.Slots.{at}
use Rattle.call_core.specs.Calls.{dialog_of}
use Rattle.calls.specs.declared.standing_call.StandingCall.{StandingCall}
use Rattle.calls.specs.Finding.{has_tag}
use Rattle.call_rules.specs.Responses.{asked_end, is_open}
use Rattle.call_rules.specs.Speaking.{may_offer}
use Rattle.plans.specs.Office.{Office}

-- a client transaction that has no final response (RFC 3261 section 17.1)
abbrev pub waits : State → Bool
waits (InviteClient (invites.Calling interval abandoned)) = true
waits (InviteClient invites.Proceeding) = true
waits (InviteClient invites.Completed) = false
waits (InviteClient invites.Accepted) = false
waits (OtherClient (others.Trying interval)) = true
waits (OtherClient others.Proceeding) = true
waits (OtherClient others.Completed) = false
waits (InviteServer state) = false
waits (OtherServer state) = false

-- a request of the server's own that may carry an offer: INVITE or UPDATE
pub record IsOffering (t : Transaction) : Type 0 where
  pub client : is_server t.state ≡ false
  pub offers : may_offer t.parts ≡ true

abbrev pub from_tag : Transaction → List ℕ
from_tag t = tag_text t.parts.from.params

-- no number above the last one was sent in the dialog; before there is one, the first INVITE alone (section 12.2.1.1)
abbrev pub IsCounted : ℕ → Option Dialog → Type 0
IsCounted number None = number ≡ 1
IsCounted number (Some d) = number ≤ last_number d

-- the call counted it, and waits for its final response while that has not come
pub record IsAwaited (t : Transaction) (c : StandingCall) : Type 0 where
  pub counted : IsCounted t.parts.cseq.number (dialog_of (asked_end t.parts c) c.call)
  pub opens : waits t.state ≡ true → is_open t.parts c ≡ true

-- it is in a dialog of the call, by the server's tag
abbrev pub FitsCall : Transaction → StandingCall → Type 0
FitsCall t c = has_tag (from_tag t) c ≡ true → IsAwaited t c

-- Each request that may carry an offer and has no final response is the open offer of the call that its tag names, or
-- of no live call; and in no leg has a number been given twice.
pub record KnowsWaiting (s : Office) : Type 0 where
  pub awaited : (id : ℕ) (t : Transaction) → at s.table.slots id ≡ Some t → IsOffering t → All (FitsCall t) s.calls.calls
  pub once : (i j : ℕ) (t u : Transaction) → at s.table.slots i ≡ Some t → at s.table.slots j ≡ Some u → IsOffering t → IsOffering u → from_tag t ≡ from_tag u
      → t.parts.cseq.number ≡ u.parts.cseq.number → i ≡ j
