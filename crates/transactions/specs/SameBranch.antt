-- Requests with the branch of an INVITE that the server sent: its CANCEL (RFC 3261 section 9.1) and the ACK to a
-- refusal (17.1.1.3).
use Rattle.std.specs.Prelude.{◌≤◌, ℕ, List, [], ◌∷◌, ◌++◌, codes, Option, Some, None, IsTrue}
use Rattle.sip_uri.specs.declared.uri.NameAddr.{NameAddr}
use Rattle.sip_uri.specs.declared.uri.Uri.{Uri}
use Rattle.sip_uri.specs.Grammar.{ReadsUri}
use Rattle.sip_uri.specs.NameAddr.{name_addr_text}
use Rattle.sip_message.specs.declared.message.Parts.{Parts}
use Rattle.sip_message.specs.declared.message.Request.{Request}
use Rattle.sip_message.specs.declared.via.Via.{Via}
use Rattle.sip_message.specs.CSeq.{max_cseq}
use Rattle.sip_message.specs.CallId.{is_call_id}
use Rattle.sip_message.specs.Party.{has_tag}
use Rattle.sip_message.specs.Repeatable.{IsValue}
use Rattle.sip_message.specs.Hops.{usual_hops}
use Rattle.sip_message.specs.Words.{tag_text}
use Rattle.sip_writing.specs.Requests.{cseq_text, headers_with, name_with_tag, IsReadVia, IsEnd}
use Rattle.transaction_machines.specs.declared.state.State.{State}
use Rattle.transaction_machines.specs.declared.state.State.TheVariants.{InviteClient, InviteServer, OtherClient, OtherServer}
use Rattle.transactions.specs.declared.transaction.Transaction.{Transaction}

-- the top Via, From, Call-ID and number of the INVITE, with this To and method
unfoldable pub parts_like : Via → Parts → NameAddr → List ℕ → Parts
parts_like via invite to method = record {
  vias = via ∷ [];
  from = invite.from;
  to = to;
  call_id = invite.call_id;
  cseq = record { number = invite.cseq.number; method = method };
  from_text = name_addr_text invite.from;
  to_text = name_addr_text to;
  cseq_text = cseq_text invite.cseq.number method;
}

-- the INVITE's Request-URI too. No further header field, and no body
unfoldable pub request_like : Uri → Via → Parts → NameAddr → List ℕ → Request
request_like uri via invite to method = record {
  method = method;
  uri = uri;
  parts = parts_like via invite to method;
  max_forwards = usual_hops;
  headers = headers_with usual_hops (parts_like via invite to method) ++ [];
  body = [];
}

-- ---- the ACK

-- To is the answer's: its name and URI with its tag alone
abbrev pub ack_to : NameAddr → NameAddr
ack_to to = name_with_tag to.display to.uri (tag_text to.params)

-- a single Via, the top one of the INVITE, which each request that is sent has
abbrev pub ack_with : Uri → Parts → Parts → List Via → Option Request
ack_with uri invite response [] = None
ack_with uri invite response (via ∷ vias) = Some (request_like uri via invite (ack_to response.to) (codes "ACK"))

-- the ACK to this response to an INVITE with this Request-URI
abbrev pub ack_of : Uri → Parts → Parts → Option Request
ack_of uri invite response = ack_with uri invite response invite.vias

-- ---- the CANCEL

abbrev pub cancel_with : Uri → Parts → List Via → Option Request
cancel_with uri invite [] = None
cancel_with uri invite (via ∷ vias) = Some (request_like uri via invite invite.to (codes "CANCEL"))

-- only an INVITE is cancelled
abbrev pub cancel_by : State → Uri → Parts → Option Request
cancel_by (InviteClient state) uri invite = cancel_with uri invite invite.vias
cancel_by (InviteServer state) uri invite = None
cancel_by (OtherClient state) uri invite = None
cancel_by (OtherServer state) uri invite = None

-- the CANCEL of the INVITE of a client transaction
abbrev pub cancel_of : Transaction → Option Request
cancel_of t = cancel_by t.state t.uri t.parts

-- ---- what is read again

-- the URI and values of an INVITE that came out of messages, or are of their form
pub record IsSoundInvite (uri : Uri) (invite : Parts) : Type 0 where
  pub uri_text : List ℕ
  pub reads : ReadsUri uri_text uri
  pub from : IsEnd invite.from
  pub from_tag : IsTrue (has_tag invite.from.params)
  pub call_id : IsTrue (is_call_id invite.call_id)
  pub call_id_value : IsValue invite.call_id
  pub number : invite.cseq.number ≤ max_cseq

-- its top Via is one that is read
abbrev pub HasReadVia : List Via → Type 0
HasReadVia [] = Unit {0}
HasReadVia (via ∷ vias) = IsReadVia via
