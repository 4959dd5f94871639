-- What actions result in.
use Rattle.std.specs.Prelude.{ℕ, ◌+◌, List, [], ◌∷◌, ◌++◌, Option, Some, None}
use Rattle.events.specs.declared.sent.Sent.{Sent}
use Rattle.sip_uri.specs.declared.uri.Addr.{Addr}
use Rattle.sip_uri.specs.Address.{address_of}
use Rattle.sip_message.specs.declared.message.Message.TheVariants as Kinds
use Rattle.sip_message.specs.declared.message.Request.{Request}
use Rattle.sip_message.specs.declared.message.Response.{Response}
use Rattle.sip_writing.specs.Reply.{response_address}
use Rattle.sip_writing.specs.Writing.{message_text}
use Rattle.transactions.specs.declared.change.Entry.{Entry}
use Rattle.transactions.specs.Changes.{answer_of, start_of}
use Rattle.call_messages.specs.declared.scene.Asker.{Asker}

-- the changes of the transactions, the datagrams that are sent, and how many tokens are made
pub record Dressed : Type 0 where
  pub changes : List Entry
  pub sends : List Sent
  pub made : ℕ

abbrev pub no_message : Dressed
no_message = record { changes = []; sends = []; made = 0 }

abbrev pub sent_response : Addr → Response → Sent
sent_response to response = record { to = to; bytes = message_text (Kinds.Response response) }

abbrev pub sent_request : Addr → Request → Sent
sent_request to request = record { to = to; bytes = message_text (Kinds.Request request) }

-- a response is its transaction's, and goes where the request asks for it (section 18.2.2)
abbrev pub responds_through : Asker → Response → Dressed
responds_through a response = record {
  changes = answer_of a.id response ∷ [];
  sends = sent_response (response_address a.parts.now.vias a.source) response ∷ [];
  made = 0;
}

-- a request begins a transaction, unless it is an ACK, whose change leaves all as it is; it is not sent to a host that
-- is no address
abbrev pub asks_at : Option Addr → Request → ℕ → Dressed
asks_at None request made = no_message
asks_at (Some to) request made = record { changes = start_of request to ∷ []; sends = sent_request to request ∷ []; made = made }

-- a request goes to the address of its Request-URI (section 18.1.1)
abbrev pub asks : Request → ℕ → Dressed
asks request made = asks_at (address_of request.uri) request made

abbrev pub again : Sent → Dressed
again sent = record { changes = []; sends = sent ∷ []; made = 0 }

-- one after another
abbrev pub behind : Dressed → Dressed → Dressed
behind first later = record { changes = first.changes ++ later.changes; sends = first.sends ++ later.sends; made = first.made + later.made }
