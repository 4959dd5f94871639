-- What goes to whom: each datagram of a step, by the request to which it responds, the dialog in which it asks, or the
-- INVITE that it cancels.
use Rattle.std.specs.Prelude.{◌≡◌, ℕ, codes, List, [], ◌∷◌, Some}
use Rattle.sip_uri.specs.Address.{address_of}
use Rattle.sip_uri.specs.declared.uri.Addr.{Addr}
use Rattle.sip_message.specs.declared.message.Parts.{Parts}
use Rattle.sip_writing.specs.Reply.{response_address}
use Rattle.dialogs.specs.declared.state.Dialog.{Dialog}
use Rattle.events.specs.declared.sent.Sent.{Sent}
use Rattle.transactions.specs.declared.transaction.Transaction.{Transaction}
use Rattle.call_trace.specs.declared.datagram.Kind.TheVariants.{Request, Response}
use Rattle.call_trace.specs.declared.datagram.Message.{Message}
use Rattle.call_trace.specs.Messages.{Replies}
use Rattle.message_laws.specs.Messages.{AreMessages, IsMessage, IsRequestOf}
use Rattle.message_laws.specs.Seeing.{SeesLike}
use Rattle.plans.specs.Effect.{Effect}
use Rattle.plans.specs.declared.taken.Taken.TheVariants.{Done}

-- a response with this status to the request of these parts, which goes back to where that came from (RFC 3261 sections
-- 8.2.6 and 18.2.2)
pub record RespondsTo (request : Parts) (source : Addr) (status : ℕ) (to : Addr) (m : Message) : Type 0 where
  pub address : to ≡ response_address request.vias source
  pub kind : m.kind ≡ Response status
  pub replies : (came : Message) → IsRequestOf request came → Replies m came

-- a request of this method in this dialog, which goes to the address of its target (section 12.2.1.1)
pub record AsksIn (d : Dialog) (name : List ℕ) (to : Addr) (m : Message) : Type 0 where
  pub address : address_of d.target ≡ Some to
  pub kind : m.kind ≡ Request
  pub method : m.method ≡ name
  pub call_id : m.call_id ≡ d.id.call_id
  pub from_tag : m.from_tag ≡ d.id.ours
  pub to_tag : m.to_tag ≡ d.id.theirs

-- the CANCEL of this INVITE, which goes where that went (section 9.1)
pub record CancelsThe (invite : Transaction) (to : Addr) (m : Message) : Type 0 where
  pub address : address_of invite.uri ≡ Some to
  pub like : SeesLike invite.parts invite.parts.to (codes "CANCEL") m

-- the ACK to a refusal of this INVITE, with the tag of the refusal's To, which goes where the INVITE went (section
-- 17.1.1.3)
pub record AcksRefusal (invite : Transaction) (response : Parts) (to : Addr) (m : Message) : Type 0 where
  pub address : to ≡ invite.place
  pub like : SeesLike invite.parts response.to (codes "ACK") m

-- what went before, once more: these bytes, to this address
pub record GoesAgain (before : Sent) (to : Addr) (m : Message) : Type 0 where
  pub address : to ≡ before.to
  pub is : IsMessage before.bytes m

-- what goes
pub data Going : Type 0 where
  -- a response with this status to the request of these parts, which came from this source
  responds : (request : Parts) (source : Addr) (status : ℕ) → Going
  -- a request of this method in this dialog
  asks : (d : Dialog) (name : List ℕ) → Going
  -- the CANCEL of this INVITE
  cancels : (invite : Transaction) → Going
  -- the ACK to a refusal of this INVITE, which came with these parts
  acks : (invite : Transaction) (response : Parts) → Going
  -- this datagram, as it went before
  again : (before : Sent) → Going

abbrev pub Goes : Going → Addr → Message → Type 0
Goes (responds request source status) to m = RespondsTo request source status to m
Goes (asks d name) to m = AsksIn d name to m
Goes (cancels invite) to m = CancelsThe invite to m
Goes (acks invite response) to m = AcksRefusal invite response to m
Goes (again before) to m = GoesAgain before to m

-- these go, in this order, and nothing else
abbrev pub AllGo : List Going → List Sent → List Message → Type 0
AllGo [] sends ms = (sends ≡ []) × (ms ≡ [])
AllGo (g ∷ more) [] ms = ⊥
AllGo (g ∷ more) (d ∷ sends) [] = ⊥
AllGo (g ∷ more) (d ∷ sends) (m ∷ ms) = Goes g d.to m × AllGo more sends ms

-- each goes as it may
abbrev pub EachGoes : (Addr → Message → Type 0) → List Sent → List Message → Type 0
EachGoes may [] ms = ms ≡ []
EachGoes may (d ∷ sends) [] = ⊥
EachGoes may (d ∷ sends) (m ∷ ms) = may d.to m × EachGoes may sends ms

-- the event is done, and sends just these
pub record Sends (what : List Going) (x : Effect) : Type 0 where
  pub taken : x.plan.taken ≡ Done
  pub all : (ms : List Message) → AreMessages x.plan.sends ms → AllGo what x.plan.sends ms
