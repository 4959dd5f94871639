-- The dialogs of the later INVITEs of the server's own: that of a call which was answered, or one that has ended (RFC
-- 3261 section 13.2.2.4).
use Rattle.std.specs.Prelude.{◌≡◌, ℕ, true, false, List, Some, ◌⊎◌}
use Rattle.sip_message.specs.declared.message.Parts.{Parts}
use Rattle.sip_message.specs.Words.{tag_text}
use Rattle.transaction_machines.specs.Machines.{is_server}
use Rattle.transactions.specs.Slots.{at}
use Rattle.transactions.specs.declared.transaction.Transaction.{Transaction}
use Rattle.call_rules.specs.Responses.{is_first}
use Rattle.call_rules.specs.Speaking.{is_invite}
use Rattle.call_trace.specs.declared.call.Call.{Call}
use Rattle.call_trace.specs.declared.datagram.Datagram.{Datagram}
use Rattle.call_trace.specs.declared.datagram.Dialog.{Dialog}
use Rattle.call_trace.specs.Calls.{Ended}
use Rattle.call_trace.specs.Listed.{AnyOf}
use Rattle.call_trace.specs.Lives.{IsLegOf}
use Rattle.plans.specs.Office.{Office}
use Rattle.message_laws.specs.OpenRequests.{IsAmong}

-- an INVITE of the server's own that is not the first of its call: it has a tag in To, or a later number
pub record IsLater (u : Transaction) : Type 0 where
  pub client : is_server u.state ≡ false
  pub invite : is_invite u.parts ≡ true
  pub later : is_first u.parts ≡ false

-- the dialog that a request of the server's own names
abbrev pub dialog_asked : Parts → Dialog
dialog_asked asked = record { call_id = asked.call_id; ours = tag_text asked.from.params; theirs = tag_text asked.to.params }

-- it is a leg of a call that was answered, or has ended
abbrev pub IsAnsweredOrEnded : List Datagram → List Call → Dialog → Type 0
IsAnsweredOrEnded t ds d = AnyOf (IsLegOf d) ds ⊎ Ended t d

-- of each that is live, and of each that was begun
pub record KnowsLate (s : Office) (begun : List Transaction) (t : List Datagram) (ds : List Call) : Type 0 where
  pub stands : (id : ℕ) (x : Transaction) → at s.table.slots id ≡ Some x → IsLater x → IsAnsweredOrEnded t ds (dialog_asked x.parts)
  pub asked : (u : Transaction) → IsAmong begun u → IsLater u → IsAnsweredOrEnded t ds (dialog_asked u.parts)
