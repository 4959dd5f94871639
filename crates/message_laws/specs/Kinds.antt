-- What the server sends at an event, and the requests of its own that begin there.
use Rattle.std.specs.Prelude.{◌≡◌, ℕ, false, true, List, codes, Some}
use Rattle.events.specs.declared.sent.Sent.{Sent}
use Rattle.message_laws.specs.Numbers.{begun_of}
use Rattle.message_laws.specs.OpenRequests.{IsAmong}
use Rattle.message_laws.specs.Sending.{WasSent}
use Rattle.message_laws.specs.Tokens.{IsMadeBranch}
use Rattle.message_laws.specs.Waiting.{waits}
use Rattle.sip_message.specs.declared.message.Message.TheVariants as Kinds
use Rattle.sip_message.specs.declared.message.Request.{Request}
use Rattle.sip_message.specs.declared.message.Response.{Response}
use Rattle.sip_message.specs.Words.{is_method, top_branch}
use Rattle.sip_writing.specs.Writing.{message_text}
use Rattle.sip_writing.specs.WritingMessage.{IsWrittenMessage}
use Rattle.transaction_machines.specs.Machines.{is_server}
use Rattle.transactions.specs.declared.change.Entry.{Entry as Change}
use Rattle.transactions.specs.declared.transaction.Transaction.{Transaction}

-- A datagram: what went before; the request of a client transaction that begins at this event, a CANCEL among them (RFC
-- 3261 section 9.1); an ACK, which begins none (sections 13.2.2.4 and 17.1.1.3); or a response.
pub data IsOfKind (before : List Sent) (made : ℕ) (changes : List Change) (d : Sent) : Type 0 where
  again : WasSent before d.bytes → IsOfKind before made changes d
  begins : (r : Request) (t : Transaction) → IsAmong (begun_of changes) t → is_server t.state ≡ false → r.parts ≡ t.parts → d.bytes ≡ message_text (Kinds.Request r) → IsWrittenMessage (Kinds.Request r)
      → IsOfKind before made changes d
  acknowledges : (r : Request) → is_method (codes "ACK") r.parts ≡ true → IsMadeBranch made (top_branch r.parts.vias) → d.bytes ≡ message_text (Kinds.Request r) → IsWrittenMessage (Kinds.Request r)
      → IsOfKind before made changes d
  responds : (r : Response) → d.bytes ≡ message_text (Kinds.Response r) → IsOfKind before made changes d

-- a request of the server's own that begins, and is sent in this event; it waits for a final response
pub record IsBegun (sends : List Sent) (t : Transaction) : Type 0 where
  pub request : Request
  pub last : t.last ≡ Some (message_text (Kinds.Request request))
  pub parts : request.parts ≡ t.parts
  pub waits : waits t.state ≡ true
  pub written : IsWrittenMessage (Kinds.Request request)
  pub sent : WasSent sends (message_text (Kinds.Request request))

-- each of those that begin at this event
abbrev pub AreBegun : List Change → List Sent → Type 0
AreBegun changes sends = (t : Transaction) → IsAmong (begun_of changes) t → is_server t.state ≡ false → IsBegun sends t
