-- What is known of the trace of an agent's events: whose texts are in it, and that it has the requests for which
-- transactions stand.
use Rattle.std.specs.Prelude.{◌≡◌, ℕ, false, List, Some, IsTrue, true}
use Rattle.std.specs.List.{All}
use Rattle.call_trace.specs.declared.datagram.Datagram.{Datagram}
use Rattle.call_trace.specs.declared.datagram.Direction.TheVariants as directions
use Rattle.call_trace.specs.Dialogs.{is_ours_in_from}
use Rattle.call_trace.specs.Exchanges.{At, TakesFinal}
use Rattle.call_trace.specs.Messages.{bye, is_request_of, offering}
use Rattle.call_trace.specs.Stands.{AsksAt}
use Rattle.events.specs.declared.sent.Sent.{Sent}
use Rattle.plans.specs.Office.{Office}
use Rattle.message_laws.specs.Datagrams.{IsRequestText}
use Rattle.message_laws.specs.OpenRequests.{IsAmong}
use Rattle.message_laws.specs.Tokens.{IsMade, IsMadeBranch}
use Rattle.message_laws.specs.Waiting.{IsOffering, waits}
use Rattle.sip_message.specs.declared.message.Message.TheVariants as Kinds
use Rattle.sip_message.specs.declared.message.Response.{Response}
use Rattle.sip_writing.specs.Writing.{message_text}
use Rattle.transaction_machines.specs.Machines.{is_server}
use Rattle.transactions.specs.declared.transaction.Transaction.{Transaction}
use Rattle.transactions.specs.Slots.{at}
use Rattle.message_laws.specs.Messages.{IsMessage, IsRequestOf}

-- ---- one datagram

-- Whose texts it has: the branch of a request that was sent, and of a response that was taken, is the server's own (RFC
-- 3261 section 8.1.1.7); and so is the From tag of a BYE that was sent (section 12.2.1.1).
pub record HasTokens (made : ℕ) (p : Datagram) : Type 0 where
  pub branch : IsTrue (is_ours_in_from p.direction p.message.kind) → IsMadeBranch made (Some p.message.branch)
  pub bye_sent : p.direction ≡ directions.Sent → IsTrue (is_request_of bye p.message) → IsMade made p.message.from_tag

-- the trace has these bytes as sent
abbrev pub HasBytes : List Datagram → Sent → Type 0
HasBytes t d = (k : ℕ) × (q : Datagram) × At t k q × (q.direction ≡ directions.Sent) × (q.message.bytes ≡ d.bytes)

-- ---- the server's own INVITEs and UPDATEs

-- the request of the transaction is in the trace
abbrev pub IsRequested : List Datagram → Transaction → Type 0
IsRequested t u = (i : ℕ) × (q : Datagram) × AsksAt offering t i q × IsRequestOf u.parts q.message

-- its transaction began, and that was one that may carry an offer
abbrev pub HasBegun : List Transaction → Transaction → Type 0
HasBegun begun x = (u : Transaction) × IsAmong begun u × IsOffering u × (u.parts ≡ x.parts)

-- and so does a final response to it (RFC 3261 section 17.1.1.2)
abbrev pub IsFinallyAnswered : List Datagram → Transaction → Type 0
IsFinallyAnswered t x =
    (i : ℕ) × (q : Datagram) × (k : ℕ) × (r : Datagram) × AsksAt offering t i q × IsRequestOf x.parts q.message × At t k r × TakesFinal r q.message

-- ---- what is sent again

pub record IsResponseText (bytes : List ℕ) : Type 0 where
  pub response : Response
  pub said : bytes ≡ message_text (Kinds.Response response)

-- a server transaction keeps a response, and a client transaction a request (section 17)
pub record KeepsOwnKind (x : Transaction) : Type 0 where
  pub server : (bytes : List ℕ) → is_server x.state ≡ true → x.last ≡ Some bytes → IsResponseText bytes
  pub client : (bytes : List ℕ) → is_server x.state ≡ false → x.last ≡ Some bytes → IsRequestText bytes

-- ---- all

pub record KnowsTrace (s : Office) (begun : List Transaction) (sends : List Sent) (t : List Datagram) : Type 0 where
  pub read : (i : ℕ) (p : Datagram) → At t i p → IsMessage p.message.bytes p.message
  pub sent : All (HasBytes t) sends
  pub tokens : (i : ℕ) (p : Datagram) → At t i p → HasTokens s.tokens p
  pub asked : (u : Transaction) → IsAmong begun u → IsOffering u → IsRequested t u
  pub stands : (id : ℕ) (x : Transaction) → at s.table.slots id ≡ Some x → IsOffering x → HasBegun begun x
  pub answered : (id : ℕ) (x : Transaction) → at s.table.slots id ≡ Some x → IsOffering x → waits x.state ≡ false → IsFinallyAnswered t x
  pub served : (id : ℕ) (x : Transaction) → at s.table.slots id ≡ Some x → KeepsOwnKind x
