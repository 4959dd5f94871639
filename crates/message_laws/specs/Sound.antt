-- The dialogs of the live calls are of messages that were read (RFC 3261 section 12.1), and each leads to an address.
use Rattle.std.specs.Prelude.{◌≡◌, ℕ, true, false, is_some, IsTrue, List, Option, Some, None}
use Rattle.std.specs.List.{All}
use Rattle.text.specs.Class.{is_run_of, is_token_byte}
use Rattle.sip_uri.specs.Address.{address_of}
use Rattle.sip_uri.specs.declared.uri.Uri.{Uri}
use Rattle.sip_message.specs.CallId.{is_call_id}
use Rattle.sip_message.specs.declared.message.Parts.{Parts}
use Rattle.sip_message.specs.Repeatable.{IsValue}
use Rattle.sip_message.specs.Words.{tag_text}
use Rattle.registrar.specs.Registrar.{bindings_of}
use Rattle.registrar.specs.declared.binding.Binding.{Binding}
use Rattle.dialogs.specs.declared.state.Dialog.{Dialog}
use Rattle.dialogs.specs.Making.{party_named}
use Rattle.dialogs.specs.Sound.{IsReadParty, IsReadUri, IsSound}
use Rattle.transaction_machines.specs.Machines.{is_server}
use Rattle.transactions.specs.declared.transaction.Transaction.{Transaction}
use Rattle.transactions.specs.Slots.{at}
use Rattle.calls.specs.declared.standing_call.StandingCall.{StandingCall}
use Rattle.plans.specs.Office.{Office}
use Rattle.message_laws.specs.Addresses.{HasOctets}

-- ---- dialogs

-- a URI that was read, and to which something can be sent: its host is an address
pub record IsTarget (uri : Uri) : Type 0 where
  pub read : IsReadUri uri
  pub leads : is_some (address_of uri) ≡ true

abbrev pub IsTargetIf : Option Uri → Type 0
IsTargetIf None = Unit {0}
IsTargetIf (Some uri) = IsTarget uri

-- each of its texts came out of a message, and its target leads to an address
pub record IsSoundLeg (d : Dialog) : Type 0 where
  pub sound : IsSound d
  pub leads : is_some (address_of d.target) ≡ true

abbrev pub IsSoundLegIf : Option Dialog → Type 0
IsSoundLegIf None = Unit {0}
IsSoundLegIf (Some d) = IsSoundLeg d

-- the two dialogs of a call, and where the sender of its open offer is reached once that has its 2xx
pub record HasSoundLegs (c : StandingCall) : Type 0 where
  pub caller : IsSoundLeg c.call.caller
  pub callee : IsSoundLegIf c.call.callee
  pub target : IsTargetIf c.target

-- ---- requests

-- what a request says of the dialog that its 2xx makes with the end that it asks (section 12.1.2)
pub record SaysDialog (parts : Parts) : Type 0 where
  pub call_id : IsTrue (is_call_id parts.call_id)
  pub call_id_value : IsValue parts.call_id
  pub tag : IsTrue (is_run_of is_token_byte (tag_text parts.from.params))
  pub from : IsReadParty (party_named parts.from)
  pub to : IsReadParty (party_named parts.to)

-- ---- what users are bound to

-- the contact of a binding
abbrev pub IsBound : Binding → Type 0
IsBound b = IsTarget b.uri

-- ---- what the agent knows

-- The server has an address; each contact that a user is bound to leads to one; the dialogs of each live call are
-- sound; and each request of the server's own whose transaction is live says what a dialog is made of.
pub record KnowsDialogs (s : Office) : Type 0 where
  pub server : HasOctets s.server.ip
  pub bindings : (user : List ℕ) → All IsBound (bindings_of s.registrar.entries user)
  pub requests : (id : ℕ) (t : Transaction) → at s.table.slots id ≡ Some t → is_server t.state ≡ false → SaysDialog t.parts
  pub calls : All HasSoundLegs s.calls.calls
